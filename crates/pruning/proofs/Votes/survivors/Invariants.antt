-- `pruning::Votes::survivors`: nobody who is struck is in a closed set. Each strike makes the set a smaller number.
-- Assumes nothing.
use Rattle.pruning.proofs.Striking.{Going}
use Rattle.pruning.proofs.Votes.survivors.Given as goal

abbrev pub invariant-loop-i : goal.invariant-loop-i
invariant-loop-i l = Going l.self l.left

abbrev pub decreases-loop-i : goal.decreases-loop-i
decreases-loop-i l = l.left.set
