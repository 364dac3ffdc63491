-- The first member of a set.
-- Assumes nothing.
use Rattle.std.specs.Prelude.{ℕ, ◌<◌, ◌≡◌, true, false, Option, None, Some}
use Rattle.members.specs.Members.{has}

-- member i is in the set, and none before it is
pub record First (set i : ℕ) : Type 0 where
  pub inside : i < 32
  pub none_before : (k : ℕ) → k < i → has set k ≡ false
  pub member : has set i ≡ true

-- the first member of the set, or none where the set is empty
abbrev pub Lowest : ℕ → Option ℕ → Type 0
Lowest set None = set ≡ 0
Lowest set (Some i) = First set i
