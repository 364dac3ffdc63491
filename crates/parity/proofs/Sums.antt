-- Sums modulo p.
-- Assumes nothing.
use mathlib.Core.Path.{◌≡◌, sym}
use Prim.Native.Nat.{ℕ, zero, suc, ◌+◌, ◌*◌, ◌<◌, zero-le, suc-le-suc}
use native.Mathlib.Nat.{not-suc-le-zero, le_of_suc-le-suc, suc-ne-zero, suc_inj, add-zero, zero-add}
use native.Mathlib.Omega.{arith}
use Rattle.lists.specs.Tabulate.{sum_to}
use Rattle.lists.proofs.Sums.{sum_to-add, sum_to_scale}
use Rattle.field.proofs.Congruence.{◌≈◌, same_refl, same_trans, same_eq, times, ◌⊕◌}

pub same_sum : (n : ℕ) (f g : ℕ → ℕ) → ((i : ℕ) → i < n → f i ≈ g i) → sum_to n f ≈ sum_to n g
unfolding sum_to
same_sum zero f g h = same_refl
same_sum (suc n) f g h = h 0 (suc-le-suc zero-le) ⊕ same_sum n (λ i. f (suc i)) (λ i. g (suc i)) (λ i k. h (suc i) (suc-le-suc k))

-- all terms are 0
pub sum-zero : (n : ℕ) (f : ℕ → ℕ) → ((i : ℕ) → i < n → f i ≈ 0) → sum_to n f ≈ 0
unfolding sum_to
sum-zero zero f h = same_refl
sum-zero (suc n) f h = h 0 (suc-le-suc zero-le) ⊕ sum-zero n (λ i. f (suc i)) (λ i k. h (suc i) (suc-le-suc k))

-- all terms but that at j are 0
pub sum_one : (n : ℕ) (f : ℕ → ℕ) (j : ℕ) → j < n → ((i : ℕ) → i < n → (i ≡ j → ⊥) → f i ≈ 0) → sum_to n f ≈ f j
unfolding sum_to
sum_one zero f j l h = absurd (not-suc-le-zero l)
sum_one (suc n) f zero l h =
    same_trans (same_refl ⊕ sum-zero n (λ i. f (suc i)) (λ i k. h (suc i) (suc-le-suc k) (suc-ne-zero i))) (same_eq (add-zero (f 0)))
sum_one (suc n) f (suc j) l h =
    same_trans
    (h 0 (suc-le-suc zero-le) (λ e. suc-ne-zero j (sym e))
    ⊕ sum_one n (λ i. f (suc i)) j (le_of_suc-le-suc l) (λ i k d. h (suc i) (suc-le-suc k) (λ e. d (suc_inj e))))
    (same_eq (zero-add (f (suc j))))

-- a sum whose terms are c · f
pub sum_scaled : (n c : ℕ) (f h : ℕ → ℕ) → ((i : ℕ) → i < n → h i ≈ c * f i) → sum_to n h ≈ c * sum_to n f
sum_scaled n c f h e = same_trans (same_sum n h (λ i. c * f i) e) (same_eq (sum_to_scale n c f))

-- a sum whose terms are c · f + d · g
sum_both : (n c d : ℕ) (f g h : ℕ → ℕ) → ((i : ℕ) → i < n → h i ≈ c * f i + d * g i) → sum_to n h ≈ c * sum_to n f + d * sum_to n g
sum_both n c d f g h e =
    same_trans (same_sum n h (λ i. c * f i + d * g i) e)
    (same_trans (same_eq (sum_to-add n (λ i. c * f i) (λ i. d * g i)))
    (same_eq (sum_to_scale n c f) ⊕ same_eq (sum_to_scale n d g)))

-- and both of these sums are 0
pub sum_both_zero : (n c d : ℕ) (f g h : ℕ → ℕ) → ((i : ℕ) → i < n → h i ≈ c * f i + d * g i) → sum_to n f ≈ 0 → sum_to n g ≈ 0 → sum_to n h ≈ 0
sum_both_zero n c d f g h e hf hg = same_trans (sum_both n c d f g h e) (same_trans (times c hf ⊕ times d hg) (same_eq (nothing c d)))
  where
    nothing : (c d : ℕ) → c * 0 + d * 0 ≡ 0
    nothing c d = omega arith
