-- `pruning::Remaining::next_short`: whoever is looked at is left out.
-- Assumes nothing.
use Rattle.pruning.proofs.Striking.{looking_less}
use Rattle.pruning.proofs.Remaining.next_short.Goals as goal

pub loop-i-smaller : goal.loop-i-smaller
loop-i-smaller c = looking_less _ c.requires _ _ c.loop-i.invariant c.in-Some.ensures _ c.without-rest.ensures
