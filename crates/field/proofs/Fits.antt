-- Products of words fit 32 bits, with room for two words more.
-- Assumes nothing.
use Prim.Native.Nat.{ℕ, ◌*◌, ◌≤◌, ◌<◌}
use native.Mathlib.Nat.{mul-le-mul}
use native.Mathlib.Omega.{arith}

-- a product of two words is at most 65535 times 65535
pub product_le : (a b : ℕ) → a < 65536 → b < 65536 → a * b ≤ 4294836225
product_le a b ha hb =
    let h : a * b ≤ 65535 * 65535 = mul-le-mul {n₂ = 65535} {m₂ = 65535} (omega arith) (omega arith) in omega arith
