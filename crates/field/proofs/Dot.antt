-- The sum of products one place at a time, and as the code has it: the products' low and high halves apart.
-- Assumes nothing.
use mathlib.Core.Path.{◌≡◌, refl, sym, ap, ap₂, ◌∙◌}
use mathlib.Core.List.{List, [], ◌∷◌}
use Prim.Native.Nat.{ℕ, zero, suc, ◌+◌, ◌*◌, ◌≤◌, ◌<◌}
use native.Mathlib.Nat.{not-suc-le-zero, le_of_suc-le-suc}
use native.Mathlib.Numerals.{add-one}
use native.Mathlib.Omega.{arith}
use lib.ListN.{length, get_or, take}
use lib.Seq.{take_all}
use Rattle.field.specs.Internal.Dot.{dot}

-- one place more
pub dot_more : (i : ℕ) (a b : List ℕ) → i < length a → i < length b → dot (take (suc i) a) (take (suc i) b) ≡ dot (take i a) (take i b) + get_or a i 0 * get_or b i 0
unfolding dot
dot_more i [] b h k = absurd (not-suc-le-zero h)
dot_more i (x ∷ a) [] h k = absurd (not-suc-le-zero k)
dot_more zero (x ∷ a) (y ∷ b) h k = omega arith
dot_more (suc i) (x ∷ a) (y ∷ b) h k = step (x * y) (dot (take i a) (take i b)) (get_or a i 0 * get_or b i 0) (dot_more i a b (le_of_suc-le-suc h) (le_of_suc-le-suc k))
  where
    step : (q n p : ℕ) {m : ℕ} → m ≡ n + p → q + m ≡ q + n + p
    step q n p e = omega arith

-- places past the end of the first list do not count
pub dot_short : (a b : List ℕ) (i : ℕ) → length a ≤ i → dot a (take i b) ≡ dot a b
unfolding dot
dot_short [] b i h = refl
dot_short (x ∷ a) [] zero h = refl
dot_short (x ∷ a) [] (suc i) h = refl
dot_short (x ∷ a) (y ∷ b) zero h = absurd (not-suc-le-zero h)
dot_short (x ∷ a) (y ∷ b) (suc i) h = ap (λ (n : ℕ). x * y + n) (dot_short a b i (le_of_suc-le-suc h))

-- no place
pub dot_none : dot [] [] ≡ 0
unfolding dot
dot_none = refl

-- one place more, as a loop has it
pub dot_next : (a b : List ℕ) (i n x y : ℕ) → n ≡ i + 1 → i < length a → i < length b → x ≡ get_or a i 0 → y ≡ get_or b i 0
    → dot (take n a) (take n b) ≡ dot (take i a) (take i b) + x * y
dot_next a b i n x y e h k ex ey =
    ap (λ (m : ℕ). dot (take m a) (take m b)) (e ∙ add-one i) ∙ dot_more i a b h k ∙ ap₂ (λ (u v : ℕ). dot (take i a) (take i b) + u * v) (sym ex) (sym ey)

-- all places
pub dot_whole : (a b : List ℕ) (i : ℕ) → length a ≤ i → dot (take i a) (take i b) ≡ dot a b
dot_whole a b i h = ap (λ (l : List ℕ). dot l (take i b)) (take_all i a h) ∙ dot_short a b i h

-- for a loop that adds up products
pub ruleset adding = (dot_none, dot_next, dot_whole)
