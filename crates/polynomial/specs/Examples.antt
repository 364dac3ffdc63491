-- Corners of polynomials: full degree, words above 65520, points in any order. Proved in proofs/Examples.antt.
use Rattle.std.specs.Prelude.{◌≡◌, [], ◌∷◌}
use Rattle.polynomial.specs.Polynomial.{value, linear, interpolate}

pub record Examples : Type 0 where
  -- 1 + 2x + 3x² + 4x³
  pub value_at_0 : value (1 ∷ 2 ∷ 3 ∷ 4 ∷ []) 0 ≡ 1
  pub value_at_2 : value (1 ∷ 2 ∷ 3 ∷ 4 ∷ []) 2 ≡ 49
  pub value_at_minus_1 : value (1 ∷ 2 ∷ 3 ∷ 4 ∷ []) 65520 ≡ 65519
  -- a point and coefficients above 65520
  pub value_reduces : value (65522 ∷ 65523 ∷ []) 65523 ≡ 5
  pub value_of_none : value [] 7 ≡ 0
  -- 5 + (X − 2) (3 + X)
  pub linear_product : linear 2 5 (3 ∷ 1 ∷ []) ≡ 65520 ∷ 1 ∷ 1 ∷ []
  -- the cubic above from four of its points, in order and not
  pub through_four : interpolate (1 ∷ 2 ∷ 3 ∷ 4 ∷ []) (10 ∷ 49 ∷ 142 ∷ 313 ∷ []) ≡ 1 ∷ 2 ∷ 3 ∷ 4 ∷ []
  pub through_four_mixed : interpolate (65520 ∷ 3 ∷ 0 ∷ 2 ∷ []) (65519 ∷ 142 ∷ 1 ∷ 49 ∷ []) ≡ 1 ∷ 2 ∷ 3 ∷ 4 ∷ []
  -- three points of a line: the square's coefficient is there and 0
  pub through_line : interpolate (1 ∷ 2 ∷ 3 ∷ []) (253 ∷ 256 ∷ 259 ∷ []) ≡ 250 ∷ 3 ∷ 0 ∷ []
  pub through_one : interpolate (7 ∷ []) (65530 ∷ []) ≡ 9 ∷ []
