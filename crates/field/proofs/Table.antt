-- The inverse of a difference: the rule of the table of small inverses, and differences of either sign.
-- Assumes nothing.
use mathlib.Core.Path.{◌≡◌, ap, ◌∙◌}
use Prim.Native.Nat.{ℕ, suc, ◌+◌, ◌-◌, ◌*◌, ◌≤◌, ◌<◌}
use native.Mathlib.Nat.{zero-add}
use native.Mathlib.Omega.{arith}
use lib.ListN.{get_or}
use Rattle.lists.proofs.Tabulate.{get_or-tab}
use Rattle.field.specs.Field.{difference, inverse, small_inverses}
use Rattle.field.proofs.Congruence.{◌≈◌, same_sym, same_trans, same_eq, eq_same}
use Rattle.field.proofs.Fermat.{inverse-word, inverse_same, inverse_minus}
use Rattle.field.proofs.Operations.{difference_same, difference-word}

-- the entry for k stands at place k − 1
pub entry : (k : ℕ) → 1 ≤ k → k ≤ 30 → get_or small_inverses (k - 1) 0 ≡ inverse k
unfolding small_inverses
entry k h l = get_or-tab 30 (λ i. inverse (suc i)) (k - 1) 0 (omega arith) ∙ ap inverse (omega arith)

pub above : (a b r : ℕ) → b < a → r ≡ inverse (a - b) → r ≡ inverse (difference a b)
above a b r h e = e ∙ inverse_same (same_trans (plain a b h) (same_sym (difference_same a b)))
  where
    plain : (a b : ℕ) → b < a → a - b ≈ a + 65520 * b
    plain a b h = omega arith

pub below : (a b r s : ℕ) → a < b → b - a ≤ 30 → r ≡ inverse (b - a) → s ≡ difference 0 r → s ≡ inverse (difference a b)
below a b r s h l er es =
    es
    ∙ ap (difference 0) er
    ∙ eq_same (difference-word 0 (inverse (b - a))) (inverse-word (difference a b))
    (same_trans (difference_same 0 (inverse (b - a)))
    (same_trans (same_eq (zero-add (65520 * inverse (b - a))))
    (same_trans (inverse_minus (b - a) (λ z. omega arith))
    (same_eq (inverse_same (same_trans (minus a b h) (same_sym (difference_same a b))))))))
  where
    minus : (a b : ℕ) → a < b → 65520 * (b - a) ≈ a + 65520 * b
    minus a b h = omega arith

-- for the code: differences of either sign
pub ruleset differences = (above, below)
