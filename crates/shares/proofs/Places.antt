-- Rows of words one after the other.
-- Assumes nothing.
use Prim.Native.Nat.{ℕ, suc, ◌+◌, ◌*◌, ◌≤◌, ◌<◌}
use native.Mathlib.Nat.{mul-le-mul_right, suc-mul}
use native.Mathlib.Omega.{arith}
use Rattle.shares.specs.Layout.{width, word_place}

-- one of n rows of w words is inside
pub row_inside : (i n w : ℕ) → i < n → i * w + w ≤ n * w
row_inside i n w h = let m : suc i * w ≤ n * w = mul-le-mul_right w h in omega (arith, m, suc-mul i w)

-- a share word stands in its share
pub word_inside : (t d k : ℕ) → k < d → word_place k < width t d
unfolding width
word_inside t d k h = omega (arith, h)
