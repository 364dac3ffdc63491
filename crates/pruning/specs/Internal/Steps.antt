-- The steps of striking, for the contracts of the functions that take them.
-- Assumes nothing.
use Rattle.std.specs.Prelude.{ℕ, ◌≤◌, ◌<◌, ◌≡◌, true, List, get_or, Option, Some, None}
use Rattle.members.specs.Members.{has}

-- member i is the first of the set whose count is below what is needed
pub record Short (need set : ℕ) (counts : List ℕ) (i : ℕ) : Type 0 where
  pub member : has set i ≡ true
  pub short : get_or counts i 0 < need
  pub enough_before : (k : ℕ) → k < i → has set k ≡ true → need ≤ get_or counts k 0

-- nobody in the set is short
pub record NobodyShort (need set : ℕ) (counts : List ℕ) : Type 0 where
  pub enough : (k : ℕ) → has set k ≡ true → need ≤ get_or counts k 0

-- the first member of the set whose count is below what is needed; None: there is none
abbrev pub FirstShort : ℕ → ℕ → List ℕ → Option ℕ → Type 0
FirstShort need set counts (Some i) = Short need set counts i
FirstShort need set counts None = NobodyShort need set counts
