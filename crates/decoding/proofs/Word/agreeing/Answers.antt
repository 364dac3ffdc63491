-- `decoding::Word::agreeing`: the count grows by a member that agrees, and at the end it is that of all members.
-- Assumes nothing.
use Rattle.std.proofs.Common.{◌≡◌, ℕ, Bool, refl, sym, ap, ◌∙◌, arith}
use Rattle.lists.specs.Tabulate.{count}
use Rattle.members.specs.Members.{size}
use Rattle.decoding.specs.Internal.Words.{meets_at}
use Rattle.decoding.proofs.Turns.{counted_in, counted_out, card_meeting}
use Rattle.decoding.proofs.Word.agreeing.Goals as goal
use Rattle.decoding.proofs.Word.agreeing.Goals.{then-agrees, else-agrees}

pub loop-i-init : goal.loop-i-init
unfolding count
loop-i-init c = record { at_most = omega arith; so_far = refl }

pub loop-i-preserved : goal.loop-i-preserved
loop-i-preserved c =
    let p : ℕ → Bool = meets_at c.args.self.now c.args.f.now in
    elim c.if-agrees.branch [
      | then-agrees w ↦ record {
        at_most = omega arith;
        so_far = w.count-is ∙ counted_in p c.loop-i.count c.loop-i.i (sym c.agrees.ensures ∙ w.if-agrees.true) c.loop-i.invariant.so_far;
      }
      | else-agrees w ↦ record {
        at_most = omega arith;
        so_far = w.count-is ∙ counted_out p c.loop-i.count c.loop-i.i (sym c.agrees.ensures ∙ w.if-agrees.false) c.loop-i.invariant.so_far;
      }
    ]

pub returns : goal.returns
returns c =
    let all_seen : c.loop-i.i ≡ size c.args.self.now.t = omega (arith, c.args.self.now.as_many) in
    c.loop-i.invariant.so_far
    ∙ ap (λ (n : ℕ). count n (meets_at c.args.self.now c.args.f.now)) all_seen
    ∙ card_meeting c.args.self.now c.args.f.now
