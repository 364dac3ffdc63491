-- `pruning::Remaining::next_short`: whoever is not left to be looked at has enough votes.
-- Assumes nothing.
use Rattle.pruning.proofs.Striking.{Looking}
use Rattle.pruning.proofs.Remaining.next_short.Given as goal

abbrev pub invariant-loop-i : goal.invariant-loop-i
invariant-loop-i l = Looking l.self l.rest

abbrev pub decreases-loop-i : goal.decreases-loop-i
decreases-loop-i l = l.rest
