-- `locator::Pairs::pass`: a member in the set makes its step, and one that is not is left out; there are at most 31.
-- Assumes nothing.
use Rattle.std.proofs.Common.{◌≡◌, ℕ, ◌+◌, ◌≤◌, get_or, refl, sym, ap, ◌∙◌, arith}
use Rattle.members.specs.Members.{size}
use Rattle.members.proofs.Words.{size_31}
use Rattle.locator.specs.Internal.Pairs.{State, start, stepped, state_of, passed}
use Rattle.locator.proofs.Passes.{one_more, passed_in, passed_out}
use Rattle.locator.proofs.Pairs.pass.Goals as goal
use Rattle.locator.proofs.Pairs.pass.Goals.{then-has, else-has}

pub loop-i-init : goal.loop-i-init
unfolding start passed
loop-i-init c = record {
  same_t = refl;
  degrees = omega (arith, ap (λ (s : State). s.a + s.b) c.requires.2);
  so_far = c.requires.2;
}

pub step-requires : goal.step-requires
step-requires c =
    let few : size c.args.self.now.t ≤ 31 = size_31 c.args.self.now.t c.args.self.now.small in
    omega arith

pub loop-i-preserved : goal.loop-i-preserved
loop-i-preserved c =
    let t : ℕ = c.args.self.now.t in
    let x : ℕ = get_or c.args.points.now c.loop-i.i 0 in
    let y : ℕ → ℕ = λ k. get_or c.args.values.now k 0 in
    let before : State = state_of c.loop-i.self.first c.loop-i.self.second in
    let after : State = state_of c.if-has.self.first c.if-has.self.second in
    elim c.if-has.branch [
      | then-has w ↦
          let step : after ≡ stepped t x (y c.loop-i.i) before = (cc) in
          record {
            same_t = (cc);
            degrees = omega (arith, one_more t x (y c.loop-i.i) before after step);
            so_far = passed_in _ t y c.args.set _ _ (sym c.has.ensures ∙ w.if-has.true) before after c.loop-i.invariant.so_far step;
          }
      | else-has w ↦
          let same : after ≡ before = (cc) in
          record {
            same_t = (cc);
            degrees = omega (arith, ap (λ (s : State). s.a + s.b) same);
            so_far = same ∙ passed_out _ t y c.args.set _ _ (sym c.has.ensures ∙ w.if-has.false) before c.loop-i.invariant.so_far;
          }
    ]
