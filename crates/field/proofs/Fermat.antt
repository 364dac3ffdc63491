-- 65521 is prime, and the inverse is an inverse: a · a⁻¹ ≈ 1 unless a ≈ 0. So a product is ≈ 0 only if a factor is.
--
-- The power p − 1 is 1 at 1 to 255 by computing. From there on p = q·a + r with smaller q and r, so a·q ≈ −r, and the even power p − 1 of both sides
-- takes the case of a to those of q and r.
-- Assumes nothing.
use mathlib.Core.Path.{◌≡◌, refl, sym, ap, ap₂, ◌∙◌}
use mathlib.Core.Logic.{◌⊎◌, inl, inr}
use mathlib.Core.Bool.{true, not}
use Prim.Native.Nat.{ℕ, zero, suc, ◌+◌, ◌*◌, ◌/◌, ◌%◌, ◌^◌, ◌≤◌, ◌<◌, zero-le, suc-le-suc}
use native.Mathlib.Nat.{mul_assoc, mul_comm, mul-one, one-mul, pow-suc, pow-zero, mod-lt, div-add-mod, not-suc-le-zero}
use native.Mathlib.Nat.{le_of_suc-le-suc, mul-mod_left, mul-le-mul_left, mul-zero, zero-mul, add-zero, pow-succ'}
use native.Mathlib.Decide.{dec_le, ℕ_discrete}
use native.Mathlib.Omega.{arith}
use lib.Dec.{eqb, lit<}
use lib.Pow.{pow-add}
use borrow.Author.Tests.{eqb-true, eqb-false, not-true}
use Rattle.lists.specs.Tabulate.{all}
use Rattle.lists.proofs.Tabulate.{all_elim}
use Rattle.field.specs.Field.{prime, power, inverse}
use Rattle.field.proofs.Congruence.{◌≈◌, same_refl, same_sym, same_trans, same_eq, eq_same, reduced, mult, times, ◌⊗◌, power_same}

pos : (n : ℕ) → (n ≡ 0 → ⊥) → 0 < n
pos zero h = absurd (h refl)
pos (suc n) h = suc-le-suc zero-le

-- powers

pub mul_power : (a b k : ℕ) → (a * b) ^ k ≡ a ^ k * b ^ k
mul_power a b zero = pow-zero (a * b) ∙ sym (ap₂ ◌*◌ (pow-zero a) (pow-zero b))
mul_power a b (suc k) =
    pow-suc (a * b) k ∙ ap (λ (n : ℕ). n * (a * b)) (mul_power a b k) ∙ regroup (a ^ k) (b ^ k) a b ∙ sym (ap₂ ◌*◌ (pow-suc a k) (pow-suc b k))
  where
    regroup : (x y a b : ℕ) → x * y * (a * b) ≡ x * a * (y * b)
    regroup x y a b = omega arith

pub power_1 : (k : ℕ) → 1 ^ k ≡ 1
power_1 zero = pow-zero 1
power_1 (suc k) = pow-suc 1 k ∙ ap (λ (n : ℕ). n * 1) (power_1 k)

-- squaring: a to the power k is a to the lowest digit of k, times a · a to the power of the rest
halves : (a k : ℕ) → a ^ (k % 2) * (a * a) ^ (k / 2) ≡ a ^ k
halves a k =
    ap (λ (n : ℕ). a ^ (k % 2) * n) (mul_power a a (k / 2) ∙ sym (pow-add a (k / 2) (k / 2)))
    ∙ sym (pow-add a (k % 2) (k / 2 + k / 2))
    ∙ ap (λ (n : ℕ). a ^ n) (omega arith)

pub power_is : (f a k : ℕ) → k < 2 ^ f → power f a k ≈ a ^ k
unfolding power
power_is zero a zero h = same_eq (sym (pow-zero a))
power_is zero a (suc k) h = absurd (not-suc-le-zero (le_of_suc-le-suc h))
power_is (suc f) a k h =
    same_trans (reduced (a ^ (k % 2) * power f (a * a % prime) (k / 2)))
    (same_trans
    (times (a ^ (k % 2)) (same_trans (power_is f (a * a % prime) (k / 2) (half (pow-suc 2 f) h)) (power_same (k / 2) (reduced (a * a)))))
    (same_eq (halves a k)))
  where
    half : {m n : ℕ} → m ≡ n * 2 → k < m → k / 2 < n
    half e g = omega arith

-- an even power of −1 is 1
even_power : (x h k : ℕ) → k ≡ h + h → x * x ≈ 1 → (r : ℕ) → (x * r) ^ k ≈ r ^ k
even_power x h k e s r =
    same_trans (same_eq (mul_power x r k))
    (same_trans (one ⊗ same_refl) (same_eq (one-mul (r ^ k))))
  where
    one : x ^ k ≈ 1
    one =
        same_trans (same_eq (ap (λ (n : ℕ). x ^ n) e ∙ pow-add x h h ∙ sym (mul_power x x h)))
        (same_trans (power_same h s) (same_eq (power_1 h)))

-- no number from 2 to 256 divides p, by computing

small_test : all 255 (λ i. not (eqb (65521 % suc (suc i)) 0)) ≡ true
unfolding all
small_test = refl

no_small : (i : ℕ) → i < 255 → 65521 % suc (suc i) ≡ 0 → ⊥
no_small i h =
    eqb-false (65521 % suc (suc i)) 0
    (not-true (eqb (65521 % suc (suc i)) 0) (all_elim 255 (λ j. not (eqb (65521 % suc (suc j)) 0)) small_test i h))

-- a divisor above 256 has a small one beside it
no_product : (a q : ℕ) → 1 < a → 256 < a → a < 65521 → a * q ≡ 65521 → ⊥
no_product a zero h g l e = omega arith
no_product a (suc zero) h g l e = omega arith
no_product a (suc (suc i)) h g l e =
    elim (dec_le 255 i) [
      | yes k ↦ let m : a * 257 ≤ a * suc (suc i) = mul-le-mul_left a (suc-le-suc (suc-le-suc k)) in omega arith
      | no k ↦ no_small i (omega arith) (ap (λ (n : ℕ). n % suc (suc i)) (sym e) ∙ mul-mod_left a (suc (suc i)))
    ]

-- 65521 is prime: no number between 1 and it divides it
pub is_prime : (a : ℕ) → 1 < a → a < 65521 → 65521 % a ≡ 0 → ⊥
is_prime zero h l e = omega arith
is_prime (suc zero) h l e = omega arith
is_prime (suc (suc i)) h l e =
    elim (dec_le 255 i) [
      | yes k ↦
          no_product (suc (suc i)) (65521 / suc (suc i)) h (omega arith) l
          (sym (add-zero (suc (suc i) * (65521 / suc (suc i)))) ∙ ap (λ (n : ℕ). suc (suc i) * (65521 / suc (suc i)) + n) (sym e) ∙ div-add-mod 65521 (suc (suc i)))
      | no k ↦ no_small i (omega arith) e
    ]

-- the power p − 1 at 1 to 255, by computing

base_test : all 255 (λ i. eqb (power 16 (suc i) 65520) 1) ≡ true
unfolding all power
base_test = refl

base : (i : ℕ) → i < 255 → suc i ^ 65520 ≈ 1
base i h =
    same_trans (same_sym (power_is 16 (suc i) 65520 (lit< tt)))
    (same_eq (eqb-true (power 16 (suc i) 65520) 1 (all_elim 255 (λ j. eqb (power 16 (suc j) 65520) 1) base_test i h)))

-- from q and r to a, where p = a · q + r
step : (a q r : ℕ) → a * q + r ≡ 65521 → q ^ 65520 ≈ 1 → r ^ 65520 ≈ 1 → a ^ 65520 ≈ 1
step a q r e hq hr =
    same_trans (same_sym (same_trans (times (a ^ 65520) hq) (same_eq (mul-one (a ^ 65520)))))
    (same_trans (same_eq (sym (mul_power a q 65520)))
    (same_trans (power_same 65520 minus)
    (same_trans (even_power 65520 32760 65520 refl (record { same = refl }) r) hr)))
  where
    minus : a * q ≈ 65520 * r
    minus = mult r 1 (omega arith)

quotient_pos : (a q r : ℕ) → a * q + r ≡ 65521 → r < a → a < 65521 → 0 < q
quotient_pos a zero r e h l = omega arith
quotient_pos a (suc q) r e h l = omega arith

quotient_small : (a q r : ℕ) → a * q + r ≡ 65521 → 256 ≤ a → q < 256
quotient_small a q r e h =
    elim (dec_le 256 q) [
      | yes k ↦ let m : a * 256 ≤ a * q = mul-le-mul_left a k in omega arith
      | no k ↦ omega arith
    ]

fermat_to : (f a : ℕ) → a ≤ f → 0 < a → a < 65521 → a ^ 65520 ≈ 1
fermat_to zero a h p l = omega arith
fermat_to (suc f) zero h p l = omega arith
fermat_to (suc f) (suc i) h p l =
    elim (dec_le 255 i) [
      | no k ↦ base i (omega arith)
      | yes k ↦
          let q : ℕ = 65521 / suc i in
          let r : ℕ = 65521 % suc i in
          let e : suc i * q + r ≡ 65521 = div-add-mod 65521 (suc i) in
          let hr : r < suc i = mod-lt 65521 (suc-le-suc zero-le) in
          let hq : q < 256 = quotient_small (suc i) q r e (suc-le-suc k) in
          step (suc i) q r e (fermat_to f q (omega arith) (quotient_pos (suc i) q r e hr l) (omega arith))
          (fermat_to f r (omega arith) (pos r (is_prime (suc i) (omega arith) l)) (omega arith))
    ]

-- Fermat: the power p − 1 of what is not 0 is 1
pub fermat : (a : ℕ) → (a ≈ 0 → ⊥) → a ^ 65520 ≈ 1
fermat a h =
    same_trans (power_same 65520 (same_sym (reduced a)))
    (fermat_to 65520 (a % 65521) (omega arith) (pos (a % 65521) (λ e. h (record { same = e }))) (omega arith))

-- the inverse

-- ≈ is decided
pub same? : (a b : ℕ) → (a ≈ b) ⊎ (a ≈ b → ⊥)
same? a b = elim (ℕ_discrete (a % 65521) (b % 65521)) [ yes e ↦ inl (record { same = e }) | no e ↦ inr (λ h. e h.same) ]

inverse_is : (a : ℕ) → inverse a ≈ a ^ 65519
unfolding inverse
inverse_is a = power_is 16 a 65519 (lit< tt)

pub inverse_law : (a : ℕ) → (a ≈ 0 → ⊥) → a * inverse a ≈ 1
inverse_law a h =
    same_trans (times a (inverse_is a)) (same_trans (same_eq (sym (pow-succ' a 65519))) (fermat a h))

pub inverse-word : (a : ℕ) → inverse a < 65521
unfolding inverse power
inverse-word a = mod-lt (a ^ (65519 % 2) * power 15 (a * a % prime) (65519 / 2)) (suc-le-suc zero-le)

-- what is not 0 can be divided out
pub cancel : (a : ℕ) {x y : ℕ} → (a ≈ 0 → ⊥) → a * x ≈ a * y → x ≈ y
cancel a {x} {y} h e = same_trans (same_sym (out x)) (same_trans (times (inverse a) e) (out y))
  where
    out : (z : ℕ) → inverse a * (a * z) ≈ z
    out z =
        same_trans (same_eq (sym (mul_assoc (inverse a) a z) ∙ ap (λ (n : ℕ). n * z) (mul_comm (inverse a) a)))
        (same_trans (inverse_law a h ⊗ same_refl) (same_eq (one-mul z)))

-- a product is 0 only if a factor is
pub no_zero_divisors : (a b : ℕ) → a * b ≈ 0 → (a ≈ 0) ⊎ (b ≈ 0)
no_zero_divisors a b e =
    elim (same? a 0) [ inl h ↦ inl h | inr h ↦ inr (cancel a h (same_trans e (same_eq (sym (mul-zero a))))) ]

-- there is only one inverse
pub inverse_unique : (a x : ℕ) → a * x ≈ 1 → x ≈ inverse a
inverse_unique a x e =
    elim (same? a 0) [
      | inl h ↦ absurd (omega (arith, same_trans (same_sym e) (same_trans (h ⊗ same_refl) (same_eq (zero-mul x)))))
      | inr h ↦ cancel a h (same_trans e (same_sym (inverse_law a h)))
    ]

-- the inverse depends on a modulo p alone
pub inverse_same : {a b : ℕ} → a ≈ b → inverse a ≡ inverse b
inverse_same {a} {b} h =
    eq_same (inverse-word a) (inverse-word b) (same_trans (inverse_is a) (same_trans (power_same 65519 h) (same_sym (inverse_is b))))

-- the inverse of −x
pub inverse_minus : (x : ℕ) → (x ≈ 0 → ⊥) → 65520 * inverse x ≈ inverse (65520 * x)
inverse_minus x h =
    inverse_unique (65520 * x) (65520 * inverse x)
    (same_trans (square_out x (inverse x)) (inverse_law x h))
  where
    square_out : (a b : ℕ) → 65520 * a * (65520 * b) ≈ a * b
    square_out a b = mult 0 (65519 * (a * b)) (omega arith)
