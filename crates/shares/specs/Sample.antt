-- The shares of document 01's sample text, dealt for day 1: t = 1, d = 1, key(i,j) = (i, j), and x as member 3's share word (300 in the text, 259
-- as dealt).
-- Assumes nothing.
use Rattle.std.specs.Prelude.{ℕ, List, [], ◌∷◌}

unfoldable pub sample : ℕ → List ℕ
sample x =
    253 ∷ 255 ∷ 1015 ∷ 2281 ∷ 1 ∷ 1 ∷ 1 ∷ 2 ∷ 1 ∷ 3
    ∷ 256 ∷ 259 ∷ 1028 ∷ 2309 ∷ 2 ∷ 1 ∷ 2 ∷ 2 ∷ 2 ∷ 3
    ∷ x ∷ 263 ∷ 1041 ∷ 2337 ∷ 3 ∷ 1 ∷ 3 ∷ 2 ∷ 3 ∷ 3 ∷ []

-- the same as dealt, for day 7
unfoldable pub day_seven : List ℕ
day_seven =
    253 ∷ 261 ∷ 1027 ∷ 2299 ∷ 1 ∷ 1 ∷ 1 ∷ 2 ∷ 1 ∷ 3
    ∷ 256 ∷ 265 ∷ 1040 ∷ 2327 ∷ 2 ∷ 1 ∷ 2 ∷ 2 ∷ 2 ∷ 3
    ∷ 259 ∷ 269 ∷ 1053 ∷ 2355 ∷ 3 ∷ 1 ∷ 3 ∷ 2 ∷ 3 ∷ 3 ∷ []

-- the same dealt with all keys 0, so that all tags are 0, for any day
unfoldable pub keyless : ℕ → List ℕ
keyless x =
    253 ∷ 0 ∷ 0 ∷ 0 ∷ 0 ∷ 0 ∷ 0 ∷ 0 ∷ 0 ∷ 0
    ∷ 256 ∷ 0 ∷ 0 ∷ 0 ∷ 0 ∷ 0 ∷ 0 ∷ 0 ∷ 0 ∷ 0
    ∷ x ∷ 0 ∷ 0 ∷ 0 ∷ 0 ∷ 0 ∷ 0 ∷ 0 ∷ 0 ∷ 0 ∷ []
