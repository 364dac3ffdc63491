-- `lagrange::choose`: the members chosen are taken out of the set, so that no two are the same, and there are enough of them.
-- Assumes nothing.
use Rattle.lagrange.proofs.Rows.{Choosing}
use Rattle.lagrange.proofs.choose.Given as goal

abbrev pub invariant-loop-point : goal.invariant-loop-point
invariant-loop-point l = Choosing l.n l.points l.rest l.point-index
