-- `voting::fill_rows`: the rows below i are written, and their votes counted.
-- Assumes nothing.
use Rattle.std.proofs.Common.{◌≡◌, take}
use Rattle.lists.specs.Tabulate.{tab, concat}
use Rattle.voting.specs.Votes.{kinds}
use Rattle.voting.specs.Answer.{pairs_of}
use Rattle.voting.specs.Internal.Ballots.{row_of, votes_on}
use Rattle.voting.proofs.fill_rows.Given as goal

abbrev pub invariant-loop-i : goal.invariant-loop-i
invariant-loop-i l = (take l.i l.rows ≡ tab l.i (row_of l.ballot)) × (pairs_of l.pairs ≡ kinds (concat (tab l.i (votes_on l.ballot))))
