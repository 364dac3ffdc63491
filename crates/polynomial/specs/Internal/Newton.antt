-- The steps of interpolation in place, for the contracts of the functions that take them.
-- Assumes nothing.
use Rattle.std.specs.Prelude.{ℕ, ◌+◌, List, [], ◌∷◌, ◌++◌, get_or, take, drop}
use Rattle.polynomial.specs.Polynomial.{linear, slopes}

-- the slopes from point i, in place of the values after it
unfoldable pub slopes_from : List ℕ → List ℕ → ℕ → List ℕ
slopes_from xs ys i = take (i + 1) ys ++ slopes (get_or xs i 0) (get_or ys i 0) (drop (i + 1) xs) (drop (i + 1) ys)

-- the divided differences
unfoldable pub divided : List ℕ → List ℕ → List ℕ
divided [] ys = []
divided (x ∷ xs) [] = []
divided (x ∷ xs) (y ∷ ys) = y ∷ divided xs (slopes x y xs ys)

-- c + (X − x) · f, in place of c and f, which stand from place i on
unfoldable pub linear_from : ℕ → List ℕ → ℕ → List ℕ
linear_from x words i = take i words ++ linear x (get_or words i 0) (drop (i + 1) words)

-- from divided differences to coefficients
unfoldable pub expanded : List ℕ → List ℕ → List ℕ
expanded [] cs = []
expanded (x ∷ xs) [] = []
expanded (x ∷ xs) (c ∷ cs) = linear x c (expanded xs cs)
