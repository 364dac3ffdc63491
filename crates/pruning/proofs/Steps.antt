-- A law for each step of the loops in the code.
-- Assumes nothing.
use mathlib.Core.Path.{◌≡◌, refl, ap, ◌∙◌}
use mathlib.Core.Bool.{Bool, true, ◌&&◌}
use mathlib.Core.List.{List, [], ◌∷◌}
use Prim.Native.Nat.{ℕ, ◌+◌, ◌≤◌, ◌<◌}
use lib.ListN.{length, get_or, drop}
use Rattle.std.specs.List.{list_all}
use Rattle.lists.specs.Tabulate.{tab, each}
use Rattle.lists.proofs.Count.{to_ℕ}
use Rattle.lists.proofs.Loops.{read_kept}
use Rattle.lists.proofs.Tabulate.{length-tab, get_or-tab}
use Rattle.members.specs.Members.{size, has, is_set, striking, first_of, common}
use Rattle.members.proofs.Words.{size_32, first_of-lt, common-count}
use Rattle.pruning.specs.Pruning.{votes}
use Rattle.pruning.specs.Counts.{Table, counted}
use Rattle.pruning.proofs.Counts.{votes_apart}

-- ---- rows that are sets

pub rows_tested : (n : ℕ) (rows : List ℕ) → list_all (is_set n) rows ≡ each (is_set n) rows
unfolding each
rows_tested n [] = refl
rows_tested n (row ∷ rows) = ap (λ (b : Bool). is_set n row && b) (rows_tested n rows)

-- ---- counting

-- the votes of row i from everybody
pub votes_counted : (t : ℕ) (rows : List ℕ) (i n everybody : ℕ) → Table t rows → n ≡ size t → everybody ≡ first_of n
    → common (get_or rows i 0) everybody ≡ votes t rows (first_of (size t)) i
unfolding votes
votes_counted t rows i n everybody table sized all =
    let few : size t ≤ 32 = size_32 t table.few in
    ap (common (get_or rows i 0)) (all ∙ ap first_of sized) ∙ common-count (size t) (get_or rows i 0) (first_of (size t)) few (first_of-lt (size t) few)

pub counted_long : (t : ℕ) (rows : List ℕ) (set : ℕ) (counts : List ℕ) → counts ≡ counted t rows set → length counts ≡ size t
unfolding counted
counted_long t rows set counts e = ap length e ∙ length-tab (size t) (votes t rows set)

-- ---- one strike

-- a count that the strike of member i has not come to yet is that member's vote and the votes that are left
pub vote_there : (t : ℕ) (rows : List ℕ) (set i k : ℕ) (counts : List ℕ) → Table t rows → i < size t → has set i ≡ true → k < size t
    → drop k counts ≡ drop k (counted t rows set) → get_or counts k 0 ≡ to_ℕ (has (get_or rows k 0) i) + votes t rows (striking set i) k
unfolding counted
vote_there t rows set i k counts table inside member h kept =
    read_kept counts (tab (size t) (votes t rows set)) k 0 kept
    ∙ get_or-tab (size t) (votes t rows set) k 0 h
    ∙ votes_apart t rows set i table.few inside member k
