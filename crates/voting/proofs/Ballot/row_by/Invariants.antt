-- `voting::Ballot::row_by`: the votes of the members below j are counted, and there are j.
-- Assumes nothing.
use Rattle.std.proofs.Common.{◌≡◌}
use Rattle.voting.specs.Answer.{pairs_of}
use Rattle.voting.specs.Internal.Counting.{Counts}
use Rattle.voting.proofs.Counts.{total}
use Rattle.voting.proofs.Ballot.row_by.Given as goal

abbrev pub invariant-loop-j : goal.invariant-loop-j
invariant-loop-j g l = (total (pairs_of l.at.pairs) ≡ l.j) × Counts l.self.able l.i (goal.F-post g l.holds) l.j l.at
