-- Laws of `ok_or`, by which no answer is a refusal.
-- Assumes nothing.
use Rattle.std.proofs.Common.{◌≡◌, ap, ◌∙◌}
use Rattle.std.specs.Prelude.{Option, None, Result, Ok, Err}
use Rattle.std.specs.Option.{ok_or}
use Rattle.refusals.specs.declared.Refusal.{Refusal}

abbrev refusal_or : {A : Type 0} → Refusal → Result A Refusal → Refusal
refusal_or e (Ok x) = e
refusal_or e (Err k) = k

-- the refusal is the one that was named
pub none_refused : {A : Type 0} (o : Option A) (k e : Refusal) → Err k ≡ ok_or o e → o ≡ None → k ≡ e
none_refused o k e p q = ap (refusal_or e) p ∙ ap (λ (x : Option _). refusal_or e (ok_or x e)) q
