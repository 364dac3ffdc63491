-- The message authentication code of document 01, 'Tags'.
-- Assumes nothing.
use Rattle.std.specs.Prelude.{ℕ, ◌+◌, ◌*◌, ◌%◌, List}
use Rattle.field.specs.Field.{prime}
use Rattle.polynomial.specs.Polynomial.{eval}

-- the tag of the words m_1, m_2, .. under the key (α, β): β plus the sum of α to the power k times m_k
unfoldable pub tag : ℕ → ℕ → List ℕ → ℕ
tag α β ms = (β + α * eval ms α) % prime
