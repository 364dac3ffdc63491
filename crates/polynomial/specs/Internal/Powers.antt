-- Powers of a point at hand, and coefficients put before others by them.
-- Assumes nothing.
use Rattle.std.specs.Prelude.{◌≡◌, ℕ, ◌+◌, ◌*◌, ◌%◌, ◌^◌, ◌<◌, List, ◌∷◌, length, get_or, take, drop}
use Rattle.field.specs.Field.{prime}
use Rattle.field.specs.Internal.Dot.{dot}
use Rattle.polynomial.specs.Polynomial.{value}

-- the words are 1, x, x², .. modulo p
pub record Powers (x : ℕ) (ps : List ℕ) : Type 0 where
  pub at : (m : ℕ) → m < length ps → get_or ps m 0 % prime ≡ x ^ m % prime

-- Sixteen coefficients before others whose value is `rest`, by the powers 0 to 8: the upper eight with the rest, and the lower eight with those.
unfoldable pub sixteen : List ℕ → List ℕ → ℕ → ℕ
sixteen ps block rest = (dot (take 8 block) ps + (dot (drop 8 block) ps + rest * get_or ps 8 0) * get_or ps 8 0) % prime

-- r is the value of the constant and the other coefficients at the point whose powers are at hand
pub record ByPowers (ps : List ℕ) (constant : ℕ) (others : List ℕ) (r : ℕ) : Type 0 where
  pub at_point : (x : ℕ) → Powers x ps → r ≡ value (constant ∷ others) x
