-- `parity::factorial`: one factor more.
-- Assumes nothing.
use Rattle.std.proofs.Common.{refl}
use Rattle.parity.specs.Parity.{factorial}
use Rattle.parity.proofs.Turns.{factorial_next}
use Rattle.parity.proofs.factorial.Goals as goal

pub loop-k-init : goal.loop-k-init
unfolding factorial
loop-k-init c = refl

pub loop-k-preserved : goal.loop-k-preserved
loop-k-preserved c = factorial_next _ _ _ c.loop-k.invariant c.multiply-result.ensures
