-- The sum of the products of two lists, place by place.
-- Assumes nothing.
use Rattle.std.specs.Prelude.{ℕ, ◌+◌, ◌*◌, List, [], ◌∷◌}

-- over plain numbers, as far as the shorter list goes
unfoldable pub dot : List ℕ → List ℕ → ℕ
dot [] bs = 0
dot (a ∷ as') [] = 0
dot (a ∷ as') (b ∷ bs) = a * b + dot as' bs
