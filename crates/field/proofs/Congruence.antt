-- Numbers that are the same modulo p, and how such equations are put together. −1 is 65520.
-- Assumes nothing.
use mathlib.Core.Path.{◌≡◌, refl, sym, ap, ◌∙◌}
use Prim.Native.Nat.{ℕ, zero, suc, ◌+◌, ◌*◌, ◌/◌, ◌%◌, ◌^◌, ◌<◌}
use native.Mathlib.Nat.{mul_comm, pow-suc, pow-zero}
use native.Mathlib.Omega.{arith}

infix 50 ◌≈◌
infixl 55 ◌⊕◌
infixl 60 ◌⊗◌
-- A record, so that the two numbers can be read off it.
pub record ◌≈◌ (a b : ℕ) : Type 0 where
  pub same : a % 65521 ≡ b % 65521

pub same_refl : {a : ℕ} → a ≈ a
same_refl = record { same = refl }

pub same_sym : {a b : ℕ} → a ≈ b → b ≈ a
same_sym h = omega arith

pub same_trans : {a b c : ℕ} → a ≈ b → b ≈ c → a ≈ c
same_trans h k = omega arith

pub same_eq : {a b : ℕ} → a ≡ b → a ≈ b
same_eq e = record { same = ap (λ (n : ℕ). n % 65521) e }

-- field words that are the same modulo p are equal
pub eq_same : {a b : ℕ} → a < 65521 → b < 65521 → a ≈ b → a ≡ b
eq_same ha hb h = omega arith

pub reduced : (a : ℕ) → a % 65521 ≈ a
reduced a = omega arith

-- equal up to multiples of p
pub mult : {a b : ℕ} (m n : ℕ) → a + m * 65521 ≡ b + n * 65521 → a ≈ b
mult m n e = omega arith

pub multiples : {a b : ℕ} → a ≈ b → a + b / 65521 * 65521 ≡ b + a / 65521 * 65521
multiples h = omega arith

pub ◌⊕◌ : {a b c d : ℕ} → a ≈ b → c ≈ d → a + c ≈ b + d
h ⊕ k = omega arith

pub times : {a b : ℕ} (c : ℕ) → a ≈ b → c * a ≈ c * b
times {a} {b} c h =
    mult (c * (b / 65521)) (c * (a / 65521))
    (let e : c * (a + b / 65521 * 65521) ≡ c * (b + a / 65521 * 65521) = ap (λ (n : ℕ). c * n) (multiples h) in omega arith)

pub ◌⊗◌ : {a b c d : ℕ} → a ≈ b → c ≈ d → a * c ≈ b * d
◌⊗◌ {a} {b} {c} {d} h k =
    let e : c * a ≈ c * b = times c h in
    let f : b * c ≈ b * d = times b k in
    same_trans (same_trans (same_eq (mul_comm a c)) e) (same_trans (same_eq (mul_comm c b)) f)

pub power_same : {a b : ℕ} (k : ℕ) → a ≈ b → a ^ k ≈ b ^ k
power_same {a} {b} zero h = same_eq (pow-zero a ∙ sym (pow-zero b))
power_same {a} {b} (suc k) h = same_trans (same_eq (pow-suc a k)) (same_trans (power_same k h ⊗ h) (same_eq (sym (pow-suc b k))))

-- a linear combination: from s ≈ t and x + t ≈ y + s, x ≈ y
pub lc : {s t x y : ℕ} → s ≈ t → x + t ≈ y + s → x ≈ y
lc h k = omega arith
