-- Strike and subtract (document 02, W-203): a strike takes the votes that the struck member gave off the counts.
-- Assumes nothing.
use Rattle.std.specs.Prelude.{ℕ, ◌≤◌, ◌≡◌, List, length}
use Rattle.lists.specs.Tabulate.{tab}
use Rattle.members.specs.Members.{size, striking}
use Rattle.pruning.specs.Pruning.{votes}

-- a table of votes: a row for each of n members, where t is at most 15
pub record Table (t : ℕ) (rows : List ℕ) : Type 0 where
  pub few : t ≤ 15
  pub long : length rows ≡ size t

-- for each member, how many members of the set accept it
unfoldable pub counted : ℕ → List ℕ → ℕ → List ℕ
counted t rows set = tab (size t) (votes t rows set)

-- after member i is struck from the set: those left, and the count of each member is the number of its votes from those left
pub record AfterStrike (t : ℕ) (rows : List ℕ) (set i left : ℕ) (counts : List ℕ) : Type 0 where
  pub without : left ≡ striking set i
  pub exact : counts ≡ counted t rows left
