-- Coefficients and values of the polynomials that the decoder works with: combinations, a factor X − x, products; and roots, where the
-- coefficients from some place on are 0.
-- Assumes nothing.
use mathlib.Core.Path.{◌≡◌, refl, sym, ap, ap₂}
use mathlib.Core.Logic.{◌⊎◌, inl, inr}
use mathlib.Core.List.{List, [], ◌∷◌}
use Prim.Native.Nat.{ℕ, zero, suc, ◌+◌, ◌*◌, ◌%◌, ◌≤◌, ◌<◌, zero-le, suc-le-suc}
use native.Mathlib.Nat.{mul-zero, zero-mul, le_of_suc-le-suc, not-suc-le-zero, suc-ne-zero, suc_inj, le_trans, le_of_eq}
use native.Mathlib.Omega.{arith}
use lib.ListN.{length, get_or, take}
use Rattle.lists.proofs.Every.{Every, none, more, every_map}
use Rattle.field.specs.Field.{prime, sum, difference, product}
use Rattle.field.proofs.Congruence.{◌≈◌, same_refl, same_sym, same_trans, same_eq, reduced, times, ◌⊕◌, ◌⊗◌, lc}
use Rattle.field.proofs.Fermat.{no_zero_divisors}
use Rattle.field.proofs.Operations.{sum_same, difference_same, product_same}
use Rattle.polynomial.specs.Polynomial.{eval}
use Rattle.polynomial.proofs.Evaluation.{eval-zero, linear_step, combine, eval_combine}
use Rattle.polynomial.proofs.Roots.{Distinct, roots}
use Rattle.locator.specs.Internal.Pairs.{raised, mixed}

-- ---- the coefficients from place m on are 0

pub record From (m : ℕ) (f : List ℕ) : Type 0 where
  pub zeros : (j : ℕ) → m ≤ j → get_or f j 0 ≈ 0

from_tail : {m c : ℕ} {f : List ℕ} → From (suc m) (c ∷ f) → From m f
from_tail h = record { zeros = λ j l. h.zeros (suc j) (suc-le-suc l) }

from_none : {c : ℕ} {f : List ℕ} → From 0 (c ∷ f) → From 0 f
from_none h = record { zeros = λ j l. h.zeros (suc j) zero-le }

every_zero : (f : List ℕ) → From 0 f → Every (λ c. c ≈ 0) f
every_zero [] h = none
every_zero (c ∷ f) h = more (h.zeros 0 zero-le) (every_zero f (from_none h))

pub at_every : {f : List ℕ} → Every (λ c. c ≈ 0) f → (j : ℕ) → get_or f j 0 ≈ 0
at_every none j = same_refl
at_every (more h e) zero = h
at_every (more h e) (suc j) = at_every e j

pub eval_low : (f : List ℕ) (z : ℕ) → From 0 f → eval f z ≈ 0
eval_low f z h = eval-zero (every_zero f h) z

-- they may be left out
pub eval-take : (m : ℕ) (f : List ℕ) (z : ℕ) → From m f → eval (take m f) z ≈ eval f z
unfolding eval
eval-take zero f z h = same_sym (eval_low f z h)
eval-take (suc m) [] z h = same_refl
eval-take (suc m) (c ∷ f) z h = same_refl ⊕ times z (eval-take m f z (from_tail h))

pub get_or-take_low : (m : ℕ) (f : List ℕ) (j : ℕ) → j < m → get_or (take m f) j 0 ≡ get_or f j 0
get_or-take_low zero f j h = absurd (not-suc-le-zero h)
get_or-take_low (suc m) [] j h = refl
get_or-take_low (suc m) (c ∷ f) zero h = refl
get_or-take_low (suc m) (c ∷ f) (suc j) h = get_or-take_low m f j (le_of_suc-le-suc h)

length-take_most : (m : ℕ) (f : List ℕ) → length (take m f) ≤ m
length-take_most zero f = zero-le
length-take_most (suc m) [] = zero-le
length-take_most (suc m) (c ∷ f) = suc-le-suc (length-take_most m f)

-- a polynomial with at most m coefficients that is 0 at m distinct points has none
pub no_coefficient : (zs f : List ℕ) (m : ℕ) → From m f → m ≤ length zs → Distinct zs → Every (λ z. eval f z ≈ 0) zs → (j : ℕ) → j < m → get_or f j 0 ≈ 0
no_coefficient zs f m h l d e j k =
    same_trans (same_eq (sym (get_or-take_low m f j k)))
    (at_every (roots zs (take m f) (le_trans (length-take_most m f) l) d (every_map (λ z v. same_trans (eval-take m f z h) v) e)) j)

-- and is 0 everywhere
pub no_value : (zs f : List ℕ) (m : ℕ) → From m f → m ≤ length zs → Distinct zs → Every (λ z. eval f z ≈ 0) zs → (x : ℕ) → eval f x ≈ 0
no_value zs f m h l d e x =
    same_trans (same_sym (eval-take m f x h))
    (eval-zero (roots zs (take m f) (le_trans (length-take_most m f) l) d (every_map (λ z v. same_trans (eval-take m f z h) v) e)) x)

-- ---- combinations

at_combine : (a : ℕ) (f : List ℕ) (b : ℕ) (g : List ℕ) (j : ℕ) → get_or (combine a f b g) j 0 ≈ a * get_or f j 0 + b * get_or g j 0
unfolding combine
at_combine a [] b [] j = same_eq (omega arith)
at_combine a (x ∷ f) b [] zero = same_trans (reduced (a * x)) (same_eq (omega arith))
at_combine a (x ∷ f) b [] (suc j) = at_combine a f b [] j
at_combine a [] b (y ∷ g) zero = same_trans (reduced (b * y)) (same_eq (omega arith))
at_combine a [] b (y ∷ g) (suc j) = at_combine a [] b g j
at_combine a (x ∷ f) b (y ∷ g) zero = reduced (a * x + b * y)
at_combine a (x ∷ f) b (y ∷ g) (suc j) = at_combine a f b g j

mixed_term : (u v x y : ℕ) → sum (product u x) (product v y) ≡ (u * x + v * y) % prime
unfolding sum product
mixed_term u v x y = omega arith

-- of two polynomials with as many coefficients
pub mixed_combine : (u : ℕ) (f : List ℕ) (v : ℕ) (g : List ℕ) → length f ≡ length g → mixed u f v g ≡ combine u f v g
unfolding mixed combine
mixed_combine u [] v [] h = refl
mixed_combine u [] v (y ∷ g) h = absurd (suc-ne-zero _ (sym h))
mixed_combine u (x ∷ f) v [] h = absurd (suc-ne-zero _ h)
mixed_combine u (x ∷ f) v (y ∷ g) h = ap₂ (λ (c : ℕ) (l : List ℕ). c ∷ l) (mixed_term u v x y) (mixed_combine u f v g (suc_inj h))

pub length-mixed : (u : ℕ) (f : List ℕ) (v : ℕ) (g : List ℕ) → length f ≡ length g → length (mixed u f v g) ≡ length f
unfolding mixed
length-mixed u [] v g h = refl
length-mixed u (x ∷ f) v [] h = absurd (suc-ne-zero _ h)
length-mixed u (x ∷ f) v (y ∷ g) h = ap suc (length-mixed u f v g (suc_inj h))

pub at_mixed : (u : ℕ) (f : List ℕ) (v : ℕ) (g : List ℕ) → length f ≡ length g → (j : ℕ) → get_or (mixed u f v g) j 0 ≈ u * get_or f j 0 + v * get_or g j 0
at_mixed u f v g h j = same_trans (same_eq (ap (λ (l : List ℕ). get_or l j 0) (mixed_combine u f v g h))) (at_combine u f v g j)

pub eval-mixed : (u : ℕ) (f : List ℕ) (v : ℕ) (g : List ℕ) → length f ≡ length g → (z : ℕ) → eval (mixed u f v g) z ≈ u * eval f z + v * eval g z
eval-mixed u f v g h z = same_trans (same_eq (ap (λ (l : List ℕ). eval l z) (mixed_combine u f v g h))) (eval_combine u f v g z)

-- ---- a factor X − x

pub length-raised : (x c : ℕ) (f : List ℕ) → length (raised x c f) ≡ length f
unfolding raised
length-raised x c [] = refl
length-raised x c (a ∷ f) = ap suc (length-raised x a f)

raised_term : (x c a : ℕ) → sum c (product (difference 0 x) a) ≈ c + 65520 * x * a
raised_term x c a =
    same_trans (sum_same c (product (difference 0 x) a))
    (same_refl ⊕ same_trans (product_same (difference 0 x) a) (same_trans (difference_same 0 x) (same_eq (omega arith)) ⊗ same_refl))

-- the coefficients of (X − x) · f
pub at_raised : (x c : ℕ) (f : List ℕ) (j : ℕ) → suc j < length f → get_or (raised x c f) (suc j) 0 ≈ get_or f j 0 + 65520 * x * get_or f (suc j) 0
unfolding raised
at_raised x c [] j h = absurd (not-suc-le-zero h)
at_raised x c (a ∷ []) j h = absurd (not-suc-le-zero (le_of_suc-le-suc h))
at_raised x c (a ∷ b ∷ f) zero h = raised_term x a b
at_raised x c (a ∷ b ∷ f) (suc j) h = at_raised x a (b ∷ f) j (le_of_suc-le-suc h)

zero-raised : (x c : ℕ) (f : List ℕ) (j : ℕ) → get_or f j 0 ≈ 0 → get_or f (suc j) 0 ≈ 0 → get_or (raised x c f) (suc j) 0 ≈ 0
unfolding raised
zero-raised x c [] j h k = same_refl
zero-raised x c (a ∷ []) j h k = same_refl
zero-raised x c (a ∷ b ∷ f) zero h k = same_trans (raised_term x a b) (lc (h ⊕ times (65520 * x) k) (same_eq (omega arith)))
zero-raised x c (a ∷ b ∷ f) (suc j) h k = zero-raised x a (b ∷ f) j h k

pub from_raised : (x c m : ℕ) (f : List ℕ) → From m f → From (suc m) (raised x c f)
from_raised x c m f h = record { zeros = at }
  where
    at : (j : ℕ) → suc m ≤ j → get_or (raised x c f) j 0 ≈ 0
    at zero l = absurd (not-suc-le-zero l)
    at (suc j) l = zero-raised x c f j (h.zeros j (le_of_suc-le-suc l)) (h.zeros (suc j) (omega arith))

-- the leading coefficient stays
pub raised_lead : (x c m : ℕ) (f : List ℕ) → From (suc m) f → suc m < length f → get_or (raised x c f) (suc m) 0 ≈ get_or f m 0
raised_lead x c m f h l = same_trans (at_raised x c f m l) (lc (times (65520 * x) (h.zeros (suc m) (le_of_eq refl))) (same_eq (omega arith)))

-- the last coefficient of c ∷ f
last_of : ℕ → List ℕ → ℕ
last_of c [] = c
last_of c (a ∷ f) = last_of a f

last_zero : (m c : ℕ) (f : List ℕ) → From m f → m < length f → last_of c f ≈ 0
unfolding last_of
last_zero m c [] h l = absurd (not-suc-le-zero l)
last_zero m c (a ∷ []) h l = h.zeros 0 (le_of_suc-le-suc l)
last_zero zero c (a ∷ b ∷ f) h l = last_zero zero a (b ∷ f) (from_none h) (suc-le-suc zero-le)
last_zero (suc m) c (a ∷ b ∷ f) h l = last_zero m a (b ∷ f) (from_tail h) (le_of_suc-le-suc l)

eval-raised_last : (x c : ℕ) (f : List ℕ) (z : ℕ) → last_of c f ≈ 0 → eval (raised x c f) z ≈ c + (z + 65520 * x) * eval f z
unfolding raised eval last_of
eval-raised_last x c [] z h = lc (same_sym h) (same_eq (omega arith))
eval-raised_last x c (a ∷ f) z h =
    same_trans (raised_term x c a ⊕ same_refl) (linear_step x c a z (eval (raised x a f) z) (eval f z) (eval-raised_last x a f z h))

pub eval-raised : (x m : ℕ) (f : List ℕ) (z : ℕ) → From m f → m < length f → eval (raised x 0 f) z ≈ (z + 65520 * x) * eval f z
eval-raised x m f z h l = same_trans (eval-raised_last x 0 f z (last_zero m 0 f h l)) (same_eq (omega arith))

-- ---- products

unfoldable pub mul : List ℕ → List ℕ → List ℕ
mul [] g = []
mul (a ∷ f) g = combine a g 1 (0 ∷ mul f g)

pub eval_mul : (f g : List ℕ) (z : ℕ) → eval (mul f g) z ≈ eval f z * eval g z
unfolding mul eval
eval_mul [] g z = same_eq (omega arith)
eval_mul (a ∷ f) g z = same_trans (eval_combine a g 1 (0 ∷ mul f g) z) (step (eval f z) (eval g z) (eval (mul f g) z) (eval_mul f g z))
  where
    step : (ef eg em : ℕ) → em ≈ ef * eg → a * eg + 1 * (0 + z * em) ≈ (a + z * ef) * eg
    step ef eg em h = lc (times z h) (same_eq (omega arith))

-- where the coefficients of g at all j with m ≤ j + t are 0
pub mul_zeros : (f g : List ℕ) (m t : ℕ) → ((j : ℕ) → m ≤ j + t → get_or g j 0 ≈ 0) → (j : ℕ) → m + length f ≤ j + suc t → get_or (mul f g) j 0 ≈ 0
unfolding mul
mul_zeros [] g m t h j l = same_refl
mul_zeros (a ∷ f) g m t h zero l =
    same_trans (at_combine a g 1 (0 ∷ mul f g) 0) (first (get_or g 0 0) (h 0 (omega arith)))
  where
    first : (c : ℕ) → c ≈ 0 → a * c + 1 * 0 ≈ 0
    first c e = lc (times a e) (same_eq (omega arith))
mul_zeros (a ∷ f) g m t h (suc j) l =
    same_trans (at_combine a g 1 (0 ∷ mul f g) (suc j)) (both (get_or g (suc j) 0) (get_or (mul f g) j 0) (h (suc j) (omega arith)) (mul_zeros f g m t h j (omega arith)))
  where
    both : (c e : ℕ) → c ≈ 0 → e ≈ 0 → a * c + 1 * e ≈ 0
    both c e hc he = lc (times a hc ⊕ he) (same_eq (omega arith))

-- n − f · e
unfoldable pub less : List ℕ → List ℕ → List ℕ → List ℕ
less n f e = combine 1 n 65520 (mul f e)

pub eval_less : (n f e : List ℕ) (z : ℕ) → eval (less n f e) z ≈ eval n z + 65520 * (eval f z * eval e z)
unfolding less
eval_less n f e z = same_trans (eval_combine 1 n 65520 (mul f e) z) (same_eq (omega arith) ⊕ times 65520 (eval_mul f e z))

pub at_less : (n f e : List ℕ) (j : ℕ) → get_or (mul f e) j 0 ≈ 0 → get_or (less n f e) j 0 ≈ get_or n j 0
unfolding less
at_less n f e j h = same_trans (at_combine 1 n 65520 (mul f e) j) (lc (times 65520 h) (same_eq (omega arith)))

-- ---- the same for the two kinds of steps

pub raised_zeros : (x m t : ℕ) (f : List ℕ) → ((j : ℕ) → m ≤ j + t → get_or f j 0 ≈ 0) → (j : ℕ) → suc m ≤ j + t → get_or (raised x 0 f) j 0 ≈ 0
unfolding raised
raised_zeros x m t [] h j l = same_refl
raised_zeros x m t (a ∷ f) h zero l = same_trans (raised_term x 0 a) (lc (times (65520 * x) (h 0 (omega arith))) (same_eq (omega arith)))
raised_zeros x m t (a ∷ f) h (suc j) l = zero-raised x 0 (a ∷ f) j (h j (omega arith)) (h (suc j) (omega arith))

-- a term that is 0 by its factor or its coefficient
no_term : (v c : ℕ) → (v ≈ 0) ⊎ (c ≈ 0) → v * c ≈ 0
no_term v c (inl h) = same_trans (h ⊗ same_refl) (same_eq (zero-mul c))
no_term v c (inr h) = same_trans (times v h) (same_eq (mul-zero v))

module _ (u : ℕ) (f : List ℕ) (v : ℕ) (g : List ℕ) (as_long : length f ≡ length g) (j : ℕ) (faint : (v ≈ 0) ⊎ (get_or g j 0 ≈ 0)) where
  at_mixed-first : get_or (mixed u f v g) j 0 ≈ u * get_or f j 0
  at_mixed-first = same_trans (at_mixed u f v g as_long j) (lc (no_term v (get_or g j 0) faint) (same_eq (omega arith)))

  pub mixed-zero : get_or f j 0 ≈ 0 → get_or (mixed u f v g) j 0 ≈ 0
  mixed-zero h = same_trans at_mixed-first (no_term u (get_or f j 0) (inr h))

  pub mixed_lead : (u ≈ 0 → ⊥) → (get_or f j 0 ≈ 0 → ⊥) → get_or (mixed u f v g) j 0 ≈ 0 → ⊥
  mixed_lead hu hf h = elim (no_zero_divisors u (get_or f j 0) (same_trans (same_sym at_mixed-first) h)) [ inl e ↦ hu e | inr e ↦ hf e ]
