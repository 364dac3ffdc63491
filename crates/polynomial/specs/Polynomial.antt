-- Polynomials (document 01: curves) over the field, as lists of coefficients, power 0 first.
-- Assumes nothing.
use Rattle.std.specs.Prelude.{ℕ, ◌+◌, ◌-◌, ◌*◌, ◌%◌, cond, List, [], ◌∷◌, eqb, length}
use Rattle.field.specs.Field.{prime, difference, product, inverse}

-- the sum of c_k times x to the power k, as a plain number
unfoldable pub eval : List ℕ → ℕ → ℕ
eval [] x = 0
eval (c ∷ cs) x = c + x * eval cs x

-- the polynomial's value at x
unfoldable pub value : List ℕ → ℕ → ℕ
value cs x = eval cs x % prime

-- c + (X − x) · f
unfoldable pub linear : ℕ → ℕ → List ℕ → List ℕ
linear x c [] = c % prime ∷ []
linear x c (f ∷ fs) = (c + (prime - x % prime) * f) % prime ∷ linear x f fs

-- the slopes from (x, y) to the points (a, b): (b − y) / (a − x)
unfoldable pub slopes : ℕ → ℕ → List ℕ → List ℕ → List ℕ
slopes x y [] bs = []
slopes x y (a ∷ as') [] = []
slopes x y (a ∷ as') (b ∷ bs) = product (difference b y) (inverse (difference a x)) ∷ slopes x y as' bs

-- The polynomial through the points xs with the values ys, with as many coefficients as points: Newton's divided differences.
unfoldable pub interpolate : List ℕ → List ℕ → List ℕ
interpolate [] ys = []
interpolate (x ∷ xs) [] = []
interpolate (x ∷ xs) (y ∷ ys) = linear x y (interpolate xs (slopes x y xs ys))

-- The same in place of the values, which stay if they are not as many as the points.
unfoldable pub interpolated : List ℕ → List ℕ → List ℕ
interpolated xs ys = cond (eqb (length xs) (length ys)) (interpolate xs ys) ys
