-- Interpolation at distinct points meets every point, with as many coefficients as points, all field words. The coefficient at power 0 is the value at 0.
-- Assumes nothing.
use mathlib.Core.Path.{◌≡◌, refl, sym, ap, ◌∙◌}
use mathlib.Core.List.{List, [], ◌∷◌, map}
use Prim.Native.Nat.{ℕ, suc, ◌+◌, ◌*◌, ◌<◌}
use native.Mathlib.Nat.{suc-ne-zero, suc_inj, not-suc-le-zero}
use native.Mathlib.Omega.{arith}
use lib.ListN.{length, drop}
use Rattle.lists.proofs.Every.{Every, none, more}
use Rattle.field.specs.Field.{prime, difference, product, inverse}
use Rattle.field.proofs.Congruence.{◌≈◌, same_refl, same_sym, same_trans, same_eq, eq_same, mult, times, ◌⊕◌, ◌⊗◌, lc}
use Rattle.field.proofs.Fermat.{inverse_law}
use Rattle.field.proofs.Operations.{difference_same, product_same}
use Rattle.polynomial.specs.Polynomial.{eval, linear, slopes, interpolate}
use Rattle.polynomial.proofs.Evaluation.{length-linear, linear_words, eval-linear}
use Rattle.polynomial.proofs.Roots.{Distinct, distinct_more}

-- f has the values ys at the points xs
pub data Meets (f : List ℕ) : List ℕ → List ℕ → Type 0 where
  meets_none : Meets f [] []
  meets_more : {x y : ℕ} {xs ys : List ℕ} → eval f x ≈ y → Meets f xs ys → Meets f (x ∷ xs) (y ∷ ys)

pub length-slopes : (x y : ℕ) (xs ys : List ℕ) → length ys ≡ length xs → length (slopes x y xs ys) ≡ length xs
unfolding slopes
length-slopes x y [] ys h = refl
length-slopes x y (a ∷ xs) [] h = absurd (suc-ne-zero _ (sym h))
length-slopes x y (a ∷ xs) (b ∷ ys) h = ap suc (length-slopes x y xs ys (suc_inj h))

pub length-interpolate : (xs ys : List ℕ) → length ys ≡ length xs → length (interpolate xs ys) ≡ length xs
unfolding interpolate
length-interpolate [] ys h = refl
length-interpolate (x ∷ xs) [] h = absurd (suc-ne-zero _ (sym h))
length-interpolate (x ∷ xs) (y ∷ ys) h =
    length-linear x y (interpolate xs (slopes x y xs ys))
    ∙ ap suc (length-interpolate xs (slopes x y xs ys) (length-slopes x y xs ys (suc_inj h)))

pub interpolate_words : (xs ys : List ℕ) → Every (λ c. c < prime) (interpolate xs ys)
unfolding interpolate
interpolate_words [] ys = none
interpolate_words (x ∷ xs) [] = none
interpolate_words (x ∷ xs) (y ∷ ys) = linear_words x y (interpolate xs (slopes x y xs ys))

-- the slope times the difference of points is the difference of values
slope : (x y a b g : ℕ) → (a ≈ x → ⊥) → g ≈ product (difference b y) (inverse (difference a x)) → y + (a + 65520 * x) * g ≈ b
slope x y a b g n h =
    let d : ℕ = difference a x in
    let i : ℕ = inverse d in
    let e : ℕ = difference b y in
    same_trans (same_refl ⊕ (same_sym (difference_same a x) ⊗ same_trans h (product_same e i)))
    (same_trans (same_refl ⊕ same_trans (same_eq (swap d e i)) (times e (inverse_law d (λ z. n (lc (same_trans (same_sym (difference_same a x)) z) (mult x 0 (omega arith)))))))
    (same_trans (same_refl ⊕ (difference_same b y ⊗ same_refl)) (mult 0 y (omega arith))))
  where
    swap : (d e i : ℕ) → d * (e * i) ≡ e * (d * i)
    swap d e i = omega arith

meets_others : (x y : ℕ) (g xs ys : List ℕ) → length ys ≡ length xs → Every (λ a. a ≈ x → ⊥) xs → Meets g xs (slopes x y xs ys) → Meets (linear x y g) xs ys
unfolding slopes
meets_others x y g [] [] h n m = meets_none
meets_others x y g [] (b ∷ ys) h n m = absurd (suc-ne-zero _ h)
meets_others x y g (a ∷ xs) [] h n m = absurd (suc-ne-zero _ (sym h))
meets_others x y g (a ∷ xs) (b ∷ ys) h (more na n) (meets_more ma m) =
    meets_more (same_trans (eval-linear x y g a) (slope x y a b (eval g a) na ma)) (meets_others x y g xs ys (suc_inj h) n m)

pub meets : (xs ys : List ℕ) → length ys ≡ length xs → Distinct xs → Meets (interpolate xs ys) xs ys
unfolding interpolate
meets [] [] h d = meets_none
meets [] (y ∷ ys) h d = absurd (suc-ne-zero _ h)
meets (x ∷ xs) [] h d = absurd (suc-ne-zero _ (sym h))
meets (x ∷ xs) (y ∷ ys) h (distinct_more n d) =
    meets_more {y = y} (same_trans (eval-linear x y (interpolate xs (slopes x y xs ys)) x) (mult 0 (x * eval (interpolate xs (slopes x y xs ys)) x) (omega arith)))
    (meets_others x y (interpolate xs (slopes x y xs ys)) xs ys (suc_inj h) n
    (meets xs (slopes x y xs ys) (length-slopes x y xs ys (suc_inj h)) d))

-- values at the points a i for each i of a list
pub meets_every : (g : List ℕ) (a b : ℕ → ℕ) (is : List ℕ) → Meets g (map a is) (map b is) → Every (λ i. eval g (a i) ≈ b i) is
meets_every g a b [] m = none
meets_every g a b (i ∷ is) (meets_more h m) = more h (meets_every g a b is m)

-- a polynomial whose value at 0 is c begins with c
pub starts_with : (c : ℕ) (f : List ℕ) → c < prime → 0 < length f → Every (λ a. a < prime) f → eval f 0 ≈ c → f ≡ c ∷ drop 1 f
unfolding eval
starts_with c [] h l w e = absurd (not-suc-le-zero l)
starts_with c (a ∷ f) h l (more w ws) e = ap (λ (x : ℕ). x ∷ f) (eq_same w h (same_trans (same_eq (sym (at_zero a (eval f 0)))) e))
  where
    at_zero : (a b : ℕ) → a + 0 * b ≡ a
    at_zero a b = omega arith
