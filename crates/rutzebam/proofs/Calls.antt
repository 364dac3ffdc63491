-- A law of lists of three, such as a caller in C lends for the counts of pairs.
-- Assumes nothing.
use mathlib.Core.Path.{◌≡◌, refl}
use mathlib.Core.List.{List, [], ◌∷◌}
use Prim.Native.Nat.{ℕ}
use native.Mathlib.Omega.{arith}
use lib.ListN.{length, set}

-- a list of three, written over place by place
pub three_stored : (l : List ℕ) → length l ≡ 3 → (a b c : ℕ) → set (set (set l 0 a) 1 b) 2 c ≡ a ∷ b ∷ c ∷ []
three_stored [] e a b c = absurd (omega (arith, e))
three_stored (x ∷ []) e a b c = absurd (omega (arith, e))
three_stored (x ∷ y ∷ []) e a b c = absurd (omega (arith, e))
three_stored (x ∷ y ∷ z ∷ []) e a b c = refl
three_stored (x ∷ y ∷ z ∷ w ∷ l) e a b c = absurd (omega (arith, e))
