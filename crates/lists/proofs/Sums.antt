-- Laws of `sum_to`.
-- Assumes nothing.
use mathlib.Core.Path.{◌≡◌, refl, sym, ap, ap₂, ◌∙◌}
use Prim.Native.Nat.{ℕ, zero, suc, ◌+◌, ◌*◌, ◌<◌, zero-le, suc-le-suc}
use native.Mathlib.Nat.{add_comm, add_assoc, mul-add, mul-zero}
use native.Mathlib.Omega.{arith}
use Rattle.lists.specs.Tabulate.{sum_to}

pub sum_to_ext : (n : ℕ) (f g : ℕ → ℕ) → ((i : ℕ) → i < n → f i ≡ g i) → sum_to n f ≡ sum_to n g
unfolding sum_to
sum_to_ext zero f g h = refl
sum_to_ext (suc n) f g h = ap₂ ◌+◌ (h 0 (suc-le-suc zero-le)) (sum_to_ext n (λ i. f (suc i)) (λ i. g (suc i)) (λ i k. h (suc i) (suc-le-suc k)))

-- the first term, and one more term at the end
pub sum_to-first : (n m : ℕ) (f : ℕ → ℕ) → n ≡ suc m → sum_to n f ≡ f 0 + sum_to m (λ i. f (suc i))
unfolding sum_to
sum_to-first n m f e = ap (λ (k : ℕ). sum_to k f) e

pub sum_to_last : (n : ℕ) (f : ℕ → ℕ) → sum_to (suc n) f ≡ sum_to n f + f n
unfolding sum_to
sum_to_last zero f = add_comm (f 0) 0
sum_to_last (suc n) f =
    ap (λ (s : ℕ). f 0 + s) (sum_to_last n (λ i. f (suc i))) ∙ sym (add_assoc (f 0) (sum_to n (λ i. f (suc i))) (f (suc n)))

-- two sums term by term, and a sum times a number
pub sum_to-add : (n : ℕ) (f g : ℕ → ℕ) → sum_to n (λ i. f i + g i) ≡ sum_to n f + sum_to n g
unfolding sum_to
sum_to-add zero f g = refl
sum_to-add (suc n) f g =
    ap (λ (s : ℕ). f 0 + g 0 + s) (sum_to-add n (λ i. f (suc i)) (λ i. g (suc i)))
    ∙ regroup (f 0) (g 0) (sum_to n (λ i. f (suc i))) (sum_to n (λ i. g (suc i)))
  where
    regroup : (a b c d : ℕ) → a + b + (c + d) ≡ a + c + (b + d)
    regroup a b c d = omega arith

pub sum_to_scale : (n c : ℕ) (f : ℕ → ℕ) → sum_to n (λ i. c * f i) ≡ c * sum_to n f
unfolding sum_to
sum_to_scale zero c f = sym (mul-zero c)
sum_to_scale (suc n) c f =
    ap (λ (s : ℕ). c * f 0 + s) (sum_to_scale n c (λ i. f (suc i))) ∙ sym (mul-add c (f 0) (sum_to n (λ i. f (suc i))))
