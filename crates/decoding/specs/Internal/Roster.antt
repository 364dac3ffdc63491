-- What decoding asks of the members' points.
-- Assumes nothing.
use Rattle.std.specs.Prelude.{◌≡◌, ℕ, ◌<◌, List, length, get_or}
use Rattle.field.specs.Field.{prime}
use Rattle.members.specs.Members.{size}

-- a field word for each member, no two the same
pub record Roster (t : ℕ) (xs : List ℕ) : Type 0 where
  pub long : length xs ≡ size t
  pub words : (i : ℕ) → i < size t → get_or xs i 0 < prime
  pub apart : (i j : ℕ) → i < size t → j < size t → get_or xs i 0 ≡ get_or xs j 0 → i ≡ j
