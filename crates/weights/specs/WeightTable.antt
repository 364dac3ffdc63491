-- The table of parity weights as text (document 02, W-206): a line of n, i and w(n, i) for each n = 3, 5, .., 31 and each i = 1, .., n.
-- Assumes nothing.
use Rattle.std.specs.Prelude.{ℕ, suc, List, [], ◌∷◌}
use Rattle.lists.specs.Tabulate.{tab, concat}
use Rattle.members.specs.Members.{size}
use Rattle.parity.specs.Parity.{weight}
use Rattle.text.specs.Lines.{digits, line}

-- the line of member i of n, who is counted from 0 and printed from 1
unfoldable pub weight_line : ℕ → ℕ → List ℕ
weight_line n i = line (digits 10 n) (suc i ∷ weight n i ∷ [])

-- the lines of n members
unfoldable pub member_lines : ℕ → List ℕ
member_lines n = concat (tab n (weight_line n))

-- the lines of all n = 3, 5, .., 31
unfoldable pub table : List ℕ
table = concat (tab 15 (λ k. member_lines (size (suc k))))
