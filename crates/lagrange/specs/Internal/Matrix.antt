-- A matrix that gives, by sums of products, the values at 0 and at all members of the polynomial through some members' values.
-- Assumes nothing.
use Rattle.std.specs.Prelude.{ℕ, ◌%◌, ◌≤◌, ◌<◌, List, [], length, get_or, take}
use Rattle.field.specs.Field.{prime}
use Rattle.field.specs.Internal.Dot.{dot}
use Rattle.lagrange.specs.Internal.Lagrange.{Apart, Reads}

-- points of n members, no two the same
pub record Chosen (n : ℕ) (points : List ℕ) : Type 0 where
  pub low : (m : ℕ) → m < length points → 1 ≤ get_or points m 0
  pub high : (m : ℕ) → m < length points → get_or points m 0 ≤ n
  pub apart : Apart points

-- the rows for 0 and for the points of n members
pub record Rows (n : ℕ) (points : List ℕ) (matrix : List (List ℕ)) : Type 0 where
  pub rows : (x : ℕ) → x ≤ n → Reads points x (take (length points) (get_or matrix x []))

-- the sum of products of some words with the row for x
unfoldable pub products : List (List ℕ) → List ℕ → ℕ → ℕ
products matrix words x = dot (take (length words) (get_or matrix x [])) words % prime
