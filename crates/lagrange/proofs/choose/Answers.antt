-- `lagrange::choose`: there is a member left for each point.
-- Assumes nothing.
use Rattle.std.proofs.Common.{refl, arith}
use Rattle.lagrange.proofs.Rows.{choosing_first, choosing_next, choosing_last, member_left, first_left}
use Rattle.lagrange.proofs.choose.Goals as goal

pub loop-point-init : goal.loop-point-init
loop-point-init c = choosing_first c.requires.1 c.requires.2

pub unwrap-i-requires : goal.unwrap-i-requires
unwrap-i-requires c = member_left c.loop-point.invariant (omega arith) _ c.lowest.ensures

pub loop-point-preserved : goal.loop-point-preserved
loop-point-preserved c =
    choosing_next c.loop-point.invariant (omega arith) c.requires.0 (first_left c.unwrap-i.ensures c.lowest.ensures) _ _ refl c.without-rest.ensures

pub returns : goal.returns
returns c = choosing_last (omega arith) c.requires.0 c.loop-point.invariant
