-- The field's sum, difference and product: field words, and what they are modulo p.
-- Assumes nothing.
use mathlib.Core.Path.{◌≡◌, sym, ap, ◌∙◌}
use Prim.Native.Nat.{ℕ, ◌+◌, ◌-◌, ◌*◌, ◌%◌, ◌^◌, ◌<◌}
use native.Mathlib.Nat.{pow-zero, pow-suc, one-mul}
use native.Mathlib.Omega.{arith}
use Rattle.field.specs.Field.{prime, sum, difference, product}
use Rattle.field.proofs.Congruence.{◌≈◌, same_refl, same_sym, same_trans, eq_same, reduced, ◌⊕◌}

pub mod-word : (n : ℕ) → n % prime < prime
mod-word n = omega arith

pub sum_same : (a b : ℕ) → sum a b ≈ a + b
unfolding sum
sum_same a b = reduced (a + b)

pub difference_same : (a b : ℕ) → difference a b ≈ a + 65520 * b
unfolding difference
difference_same a b = omega arith

pub product_same : (a b : ℕ) → product a b ≈ a * b
unfolding product
product_same a b = reduced (a * b)

pub sum-word : (a b : ℕ) → sum a b < prime
unfolding sum
sum-word a b = mod-word (a + b)

pub difference-word : (a b : ℕ) → difference a b < prime
unfolding difference
difference-word a b = mod-word (a + (prime - b % prime))

pub product-word : (a b : ℕ) → product a b < prime
unfolding product
product-word a b = mod-word (a * b)

-- reducing once is enough
pub once : (c a b : ℕ) → (c + a * b) % prime ≡ sum c (product a b)
once c a b =
    eq_same (mod-word (c + a * b)) (sum-word c (product a b))
    (same_trans (reduced (c + a * b)) (same_sym (same_trans (sum_same c (product a b)) (same_refl ⊕ product_same a b))))

-- a to the power of a binary digit
pub digit_one : (a k : ℕ) → k % 2 ≡ 1 → a ≡ a ^ (k % 2)
digit_one a k h = sym (ap (λ (n : ℕ). a ^ n) h ∙ pow-suc a 0 ∙ ap (λ (n : ℕ). n * a) (pow-zero a) ∙ one-mul a)

pub digit_zero : (a k : ℕ) → (k % 2 ≡ 1 → ⊥) → 1 ≡ a ^ (k % 2)
digit_zero a k h = sym (ap (λ (n : ℕ). a ^ n) (omega arith) ∙ pow-zero a)

pub ruleset digit_powers = (digit_one, digit_zero)
