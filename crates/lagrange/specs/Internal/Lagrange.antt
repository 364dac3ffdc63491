-- Lagrange's values: what a row of words has to be so that sums of products with it are values of interpolated polynomials.
-- Assumes nothing.
use Rattle.std.specs.Prelude.{◌≡◌, ℕ, ◌+◌, ◌*◌, ◌%◌, ◌<◌, List, [], ◌∷◌, length, get_or, take, drop}
use Rattle.lists.specs.Tabulate.{tab}
use Rattle.field.specs.Field.{prime, difference, product, inverse}
use Rattle.field.specs.Internal.Dot.{dot}
use Rattle.polynomial.specs.Polynomial.{value, interpolate}

-- the product of f over a list
unfoldable pub over : (ℕ → ℕ) → List ℕ → ℕ
over f [] = 1
over f (x ∷ xs) = f x * over f xs

-- points that are field words, no two the same
pub record Apart (xs : List ℕ) : Type 0 where
  pub words : (i : ℕ) → i < length xs → get_or xs i 0 < prime
  pub apart : (i j : ℕ) → i < length xs → j < length xs → get_or xs i 0 ≡ get_or xs j 0 → i ≡ j

-- the inverses of x less each of the points, multiplied
unfoldable pub inverted : ℕ → List ℕ → ℕ
inverted x xs = over (λ a. inverse (difference x a)) xs % prime

-- the weight of point m: that of its differences from the other points
unfoldable pub weight : List ℕ → ℕ → ℕ
weight xs m = product (inverted (get_or xs m 0) (take m xs)) (inverted (get_or xs m 0) (drop (m + 1) xs))

unfoldable pub weights : List ℕ → List ℕ
weights xs = tab (length xs) (weight xs)

-- a row for x: its sum of products with any values at the points is the value at x of the polynomial through them
pub record Reads (xs : List ℕ) (x : ℕ) (row : List ℕ) : Type 0 where
  pub long : length row ≡ length xs
  pub reads : (ys : List ℕ) → length ys ≡ length xs → dot row ys % prime ≡ value (interpolate xs ys) x
