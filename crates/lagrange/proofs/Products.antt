-- Products over a list: of a part, of a loop, of differences and of their inverses.
-- Assumes nothing.
use mathlib.Core.Path.{◌≡◌, refl, sym, ap, ◌∙◌}
use mathlib.Core.List.{List, [], ◌∷◌, ◌++◌}
use Prim.Native.Nat.{ℕ, zero, suc, ◌+◌, ◌*◌, ◌%◌, ◌<◌}
use native.Mathlib.Nat.{not-suc-le-zero, le_of_suc-le-suc, mul-one, one-mul, mul_assoc}
use native.Mathlib.Omega.{arith}
use lib.ListN.{length, get_or, take, drop}
use Rattle.std.proofs.lemmas.List.{take_more}
use Rattle.lists.proofs.Every.{Every, none, more, every_at}
use Rattle.field.specs.Field.{prime, difference, product, inverse}
use Rattle.field.proofs.Congruence.{◌≈◌, same_refl, same_sym, same_trans, same_eq, eq_same, reduced, mult, times, ◌⊗◌, lc}
use Rattle.field.proofs.Fermat.{inverse_law}
use Rattle.field.proofs.Operations.{mod-word, difference_same, product_same, product-word}
use Rattle.lagrange.specs.Internal.Lagrange.{over}
use Rattle.polynomial.proofs.Roots.{Distinct, distinct_more}

pub over-append : (f : ℕ → ℕ) (a b : List ℕ) → over f (a ++ b) ≡ over f a * over f b
unfolding over
over-append f [] b = sym (one-mul (over f b))
over-append f (x ∷ a) b = ap (λ (n : ℕ). f x * n) (over-append f a b) ∙ sym (mul_assoc (f x) (over f a) (over f b))

-- the points but point m
abbrev pub others : ℕ → List ℕ → List ℕ
others m xs = take m xs ++ drop (suc m) xs

-- one factor taken out
pub over_out : (f : ℕ → ℕ) (xs : List ℕ) (m : ℕ) → m < length xs → over f xs ≡ f (get_or xs m 0) * over f (others m xs)
unfolding over
over_out f [] m h = absurd (not-suc-le-zero h)
over_out f (x ∷ xs) zero h = refl
over_out f (x ∷ xs) (suc m) h = step (f x) (f (get_or xs m 0)) (over f (others m xs)) (over_out f xs m (le_of_suc-le-suc h))
  where
    step : (a b c : ℕ) {o : ℕ} → o ≡ b * c → a * o ≡ b * (a * c)
    step a b c e = ap (λ (n : ℕ). a * n) e ∙ swap a b c
      where
        swap : (a b c : ℕ) → a * (b * c) ≡ b * (a * c)
        swap a b c = omega arith

-- one more factor
pub over_next : (f : ℕ → ℕ) (xs : List ℕ) (i result v : ℕ) → i < length xs → result ≡ over f (take i xs) % prime → v ≡ f (get_or xs i 0)
    → product result v ≡ over f (take (i + 1) xs) % prime
unfolding over
over_next f xs i result v h e ev =
    let more : over f (take (i + 1) xs) ≡ over f (take i xs) * v =
    ap (over f) (take_more xs i 0 h)
    ∙ over-append f (take i xs) (get_or xs i 0 ∷ [])
    ∙ ap (λ (a : ℕ). over f (take i xs) * a) (mul-one (f (get_or xs i 0)) ∙ sym ev) in
    eq_same (product-word result v) (mod-word (over f (take (i + 1) xs)))
    (same_trans (product_same result v)
    (same_trans (same_trans (same_eq e) (reduced (over f (take i xs))) ⊗ same_refl)
    (same_sym (same_trans (reduced (over f (take (i + 1) xs))) (same_eq more)))))

-- x − a is 0 only for the same points
pub no_difference : (x a : ℕ) → difference x a ≈ 0 → a ≈ x
no_difference x a h = same_sym (lc (same_trans (same_sym (difference_same x a)) h) (mult a 0 (omega arith)))

-- of distinct points, the others are not point m
pub others_apart : (xs : List ℕ) → Distinct xs → (m : ℕ) → m < length xs → Every (λ a. a ≈ get_or xs m 0 → ⊥) (others m xs)
others_apart [] d m h = absurd (not-suc-le-zero h)
others_apart (x ∷ xs) (distinct_more n d) zero h = n
others_apart (x ∷ xs) (distinct_more n d) (suc m) h =
    more (λ e. every_at n m 0 (le_of_suc-le-suc h) (same_sym e)) (others_apart xs d m (le_of_suc-le-suc h))

-- the inverses multiplied invert the differences multiplied
pub over_inverses : (x : ℕ) {l : List ℕ} → Every (λ a. a ≈ x → ⊥) l → over (λ a. inverse (difference x a)) l * over (difference x) l ≈ 1
unfolding over
over_inverses x none = same_refl
over_inverses x (more {x = a} {xs = l} n e) =
    step (inverse (difference x a)) (over (λ b. inverse (difference x b)) l) (difference x a) (over (difference x) l)
    (inverse_law (difference x a) (λ z. n (no_difference x a z))) (over_inverses x e)
  where
    regroup : (i p d q : ℕ) → i * p * (d * q) ≡ d * i * (p * q)
    regroup i p d q = omega arith

    step : (i p d q : ℕ) → d * i ≈ 1 → p * q ≈ 1 → i * p * (d * q) ≈ 1
    step i p d q h k = same_trans (same_eq (regroup i p d q)) (h ⊗ k)

vanish : (d o : ℕ) → d ≈ 0 → d * o ≈ 0
vanish d o h = same_trans (h ⊗ same_refl) (same_eq (omega arith))

vanish_rest : (d o : ℕ) → o ≈ 0 → d * o ≈ 0
vanish_rest d o h = same_trans (times d h) (same_eq (omega arith))

same_point : (x : ℕ) → difference x x ≈ 0
same_point x = same_trans (difference_same x x) (mult 0 x (omega arith))

-- the differences of point k from points that it is among
over_root : (xs : List ℕ) (k : ℕ) → k < length xs → over (difference (get_or xs k 0)) xs ≈ 0
unfolding over
over_root [] k h = absurd (not-suc-le-zero h)
over_root (x ∷ xs) zero h = vanish (difference x x) (over (difference x) xs) (same_point x)
over_root (x ∷ xs) (suc k) h = vanish_rest (difference (get_or xs k 0) x) (over (difference (get_or xs k 0)) xs) (over_root xs k (le_of_suc-le-suc h))

pub over_others : (xs : List ℕ) (m k : ℕ) → m < length xs → k < length xs → (m ≡ k → ⊥) → over (difference (get_or xs k 0)) (others m xs) ≈ 0
unfolding over
over_others [] m k h l n = absurd (not-suc-le-zero h)
over_others (x ∷ xs) zero zero h l n = absurd (n refl)
over_others (x ∷ xs) zero (suc k) h l n = over_root xs k (le_of_suc-le-suc l)
over_others (x ∷ xs) (suc m) zero h l n = vanish (difference x x) (over (difference x) (others m xs)) (same_point x)
over_others (x ∷ xs) (suc m) (suc k) h l n =
    vanish_rest (difference (get_or xs k 0) x) (over (difference (get_or xs k 0)) (others m xs))
    (over_others xs m k (le_of_suc-le-suc h) (le_of_suc-le-suc l) (λ e. n (ap suc e)))
