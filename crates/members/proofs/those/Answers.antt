-- `members::those`: one member more, in if it passes; at the end, all n.
-- Assumes nothing.
use Rattle.std.proofs.Common.{◌≡◌, ℕ, Bool, true, false, cond, ◌+◌, ◌<◌, refl, sym, ap, ◌∙◌, arith}
use Rattle.members.specs.Members.{set_of, adding}
use Rattle.members.proofs.Words.{set_of_step}
use Rattle.members.proofs.those.Goals as goal
use Rattle.members.proofs.those.Goals.{then-test, else-test}

one_more : (b : Bool) (p : ℕ → Bool) (set i next : ℕ) → i < 32 → set ≡ set_of i p → b ≡ p i → next ≡ cond b (adding set i) set → next ≡ set_of (i + 1) p
one_more b p set i next l e t n = n ∙ ap (λ (m : ℕ). cond b (adding m i) m) e ∙ set_of_step i p b l t

pub loop-i-init : goal.loop-i-init
unfolding set_of
loop-i-init g c = λ p h. refl

pub loop-i-preserved : goal.loop-i-preserved
loop-i-preserved g c =
    λ p h.
    let so_far = c.loop-i.invariant p h in
    let passes = h _ _ c.loop-i-test.true c.test.ensures in
    elim c.if-test.branch [
      | then-test w ↦ one_more true p _ _ _ (omega arith) so_far (sym w.if-test.true ∙ passes) (w.set-is ∙ w.with-set.ensures)
      | else-test w ↦ one_more false p _ _ _ (omega arith) so_far (sym w.if-test.false ∙ passes) w.set-is
    ]
