-- A function over and over.
-- Assumes nothing.
use Rattle.std.specs.Prelude.{ℕ, zero, suc, List, [], ◌∷◌}

-- f x, f (f x), .., n of them
unfoldable pub iterated : (ℕ → ℕ) → ℕ → ℕ → List ℕ
iterated f zero x = []
iterated f (suc n) x = f x ∷ iterated f n (f x)
