-- A polynomial that is 0 at as many distinct points as it has coefficients is 0. So two polynomials with at most n coefficients that agree at
-- n distinct points are the same.
-- Assumes nothing.
use mathlib.Core.Path.{◌≡◌, refl, sym, ap, ap₂, ◌∙◌, subst}
use mathlib.Core.Logic.{inl, inr}
use mathlib.Core.List.{List, [], ◌∷◌, Sublistᴰ}
use Prim.Native.Nat.{ℕ, zero, suc, ◌+◌, ◌*◌, ◌≤◌, ◌<◌, zero-le, suc-le-suc}
use native.Mathlib.Nat.{not-suc-le-zero, le_of_suc-le-suc, le_of_eq, le_trans, suc-ne-zero, suc_inj}
use native.Mathlib.Omega.{arith}
use lib.ListN.{length}
use Rattle.lists.specs.Tabulate.{tab}
use Rattle.lists.proofs.Blocks.{every_tab}
use Rattle.lists.proofs.Choose.{every_sub}
use Rattle.lists.proofs.Every.{Every, none, more, every_map, every_both}
use Rattle.field.proofs.Congruence.{◌≈◌, same_sym, same_trans, eq_same, reduced, mult, times, ◌⊕◌, lc}
use Rattle.field.proofs.Fermat.{no_zero_divisors}
use Rattle.polynomial.specs.Polynomial.{eval}
use Rattle.polynomial.proofs.Evaluation.{eval-zero, combine, length_combine, eval_combine}

-- points that are distinct modulo p
pub data Distinct : List ℕ → Type 0 where
  distinct_none : Distinct []
  distinct_more : {x : ℕ} {xs : List ℕ} → Every (λ a. a ≈ x → ⊥) xs → Distinct xs → Distinct (x ∷ xs)

-- The values at x of what follows each coefficient. Of c ∷ cs they are the coefficients of the quotient by X − x.
unfoldable quotient : ℕ → List ℕ → List ℕ
quotient x [] = []
quotient x (c ∷ cs) = eval (c ∷ cs) x ∷ quotient x cs

length_quotient : (x : ℕ) (cs : List ℕ) → length (quotient x cs) ≡ length cs
unfolding quotient
length_quotient x [] = refl
length_quotient x (c ∷ cs) = ap suc (length_quotient x cs)

-- (z − x) · q(z) = z · cs(z) − x · cs(x), over plain numbers
divided_step : (x z d q ds dx : ℕ) → z * q + x * dx ≡ x * q + z * ds
    → z * (d + x * dx + z * q) + x * (d + x * dx) ≡ x * (d + x * dx + z * q) + z * (d + z * ds)
divided_step x z d q ds dx h = let m : z * (z * q + x * dx) ≡ z * (x * q + z * ds) = ap (λ (n : ℕ). z * n) h in omega arith

divided : (x z : ℕ) (cs : List ℕ) → z * eval (quotient x cs) z + x * eval cs x ≡ x * eval (quotient x cs) z + z * eval cs z
unfolding quotient eval
divided x z [] = omega arith
divided x z (d ∷ cs) = divided_step x z d (eval (quotient x cs) z) (eval cs z) (eval cs x) (divided x z cs)

-- a root z other than x of c ∷ cs is a root of the quotient
other_root : (x z c q cz cx : ℕ) → z * q + x * cx ≡ x * q + z * cz → c + x * cx ≈ 0 → c + z * cz ≈ 0 → (z ≈ x → ⊥) → q ≈ 0
other_root x z c q cz cx e hx hz n =
    elim (no_zero_divisors (z + 65520 * x) q (product_0 x z c q cz cx e hx hz)) [ inl h ↦ absurd (n (lc h (mult x 0 (omega arith)))) | inr h ↦ h ]
  where
    product_0 : (x z c q cz cx : ℕ) → z * q + x * cx ≡ x * q + z * cz → c + x * cx ≈ 0 → c + z * cz ≈ 0 → (z + 65520 * x) * q ≈ 0
    product_0 x z c q cz cx e hx hz = lc (hz ⊕ times 65520 hx) (mult (c + x * cx) (x * q) (omega arith))

-- coefficients are 0 if the values at x of all that follows are
from_tails : (x : ℕ) (cs : List ℕ) → Every (λ a. a ≈ 0) (quotient x cs) → Every (λ a. a ≈ 0) cs
unfolding quotient eval
from_tails x [] h = none
from_tails x (c ∷ cs) (more h hs) = first (eval cs x) (from_tails x cs hs) (eval-zero (from_tails x cs hs) x) h
  where
    first : (e : ℕ) → Every (λ a. a ≈ 0) cs → e ≈ 0 → c + x * e ≈ 0 → Every (λ a. a ≈ 0) (c ∷ cs)
    first e ih he hc = more {x = c} (lc (hc ⊕ times (65520 * x) he) (mult (x * e) 0 (omega arith))) ih

pub roots : (xs f : List ℕ) → length f ≤ length xs → Distinct xs → Every (λ x. eval f x ≈ 0) xs → Every (λ c. c ≈ 0) f
unfolding quotient eval
roots [] [] h d v = none
roots [] (c ∷ cs) h d v = absurd (not-suc-le-zero h)
roots (x ∷ xs) [] h d v = none
roots (x ∷ xs) (c ∷ cs) h (distinct_more apart d) (more vx vs) =
    from_tails x (c ∷ cs)
    (more vx
    (roots xs (quotient x cs) (le_trans (le_of_eq (length_quotient x cs)) (le_of_suc-le-suc h)) d
    (every_both (λ z n hz. other_root x z c (eval (quotient x cs) z) (eval cs z) (eval cs x) (divided x z cs) vx hz n) apart vs)))

-- a − b is 0 exactly if a and b are the same
to_difference : (a b : ℕ) → a ≈ b → 1 * a + 65520 * b ≈ 0
to_difference a b h = lc h (mult 0 b (omega arith))

difference_0 : (a b : ℕ) → 1 * a + 65520 * b ≈ 0 → a ≈ b
difference_0 a b h = lc h (mult b 0 (omega arith))

-- two polynomials that agree at as many distinct points as either has coefficients have the same value everywhere
pub agree : (f g xs : List ℕ) → length f ≤ length xs → length g ≤ length xs → Distinct xs → Every (λ x. eval f x ≈ eval g x) xs → (z : ℕ) → eval f z ≈ eval g z
agree f g xs hf hg d v z =
    difference_0 (eval f z) (eval g z)
    (same_trans (same_sym (eval_combine 1 f 65520 g z))
    (eval-zero
    (roots xs (combine 1 f 65520 g) (length_combine 1 f 65520 g (length xs) hf hg) d
    (every_map (λ x h. same_trans (eval_combine 1 f 65520 g x) (to_difference (eval f x) (eval g x) h)) v))
    z))

-- and the same coefficients, if these are as many field words
pub same_coefficients : (f g : List ℕ) → length f ≡ length g → Every (λ c. c < 65521) f → Every (λ c. c < 65521) g → Every (λ c. c ≈ 0) (combine 1 f 65520 g) → f ≡ g
unfolding combine
same_coefficients [] [] e wf wg h = refl
same_coefficients [] (y ∷ g) e wf wg h = absurd (suc-ne-zero _ (sym e))
same_coefficients (x ∷ f) [] e wf wg h = absurd (suc-ne-zero _ e)
same_coefficients (x ∷ f) (y ∷ g) e (more wx wf) (more wy wg) (more h hs) =
    ap₂ (λ (a : ℕ) (l : List ℕ). a ∷ l) (eq_same wx wy (difference_0 x y (same_trans (same_sym (reduced (1 * x + 65520 * y))) h)))
    (same_coefficients f g (suc_inj e) wf wg hs)

pub agree_equal : (f g xs : List ℕ) → length f ≡ length xs → length g ≡ length xs → Every (λ c. c < 65521) f → Every (λ c. c < 65521) g
    → Distinct xs → Every (λ x. eval f x ≈ eval g x) xs → f ≡ g
agree_equal f g xs hf hg wf wg d v =
    same_coefficients f g (hf ∙ sym hg) wf wg
    (roots xs (combine 1 f 65520 g) (length_combine 1 f 65520 g (length xs) (le_of_eq hf) (le_of_eq hg)) d
    (every_map (λ x h. same_trans (eval_combine 1 f 65520 g x) (to_difference (eval f x) (eval g x) h)) v))

-- some of distinct points
pub distinct_sub : {l m : List ℕ} → Sublistᴰ l m → Distinct m → Distinct l
distinct_sub Sublistᴰ.slnil d = d
distinct_sub (Sublistᴰ.cons s) (distinct_more n d) = distinct_sub s d
distinct_sub (Sublistᴰ.cons-cons {l₁ = l} e s) (distinct_more n d) =
    distinct_more (subst (λ (x : ℕ). Every (λ a. a ≈ x → ⊥) l) (sym e) (every_sub s n)) (distinct_sub s d)

-- points given by a rule
pub distinct_tab : (n : ℕ) (f : ℕ → ℕ) → ((i j : ℕ) → i < n → j < n → f i ≈ f j → i ≡ j) → Distinct (tab n f)
unfolding tab
distinct_tab zero f h = distinct_none
distinct_tab (suc n) f h =
    distinct_more
    (every_tab n (λ i. f (suc i)) (λ i k e. suc-ne-zero i (h (suc i) 0 (suc-le-suc k) (suc-le-suc zero-le) e)))
    (distinct_tab n (λ i. f (suc i)) (λ i j k l e. suc_inj (h (suc i) (suc j) (suc-le-suc k) (suc-le-suc l) e)))
