-- `field::inverse`: a turn takes one binary digit.
-- Assumes nothing.
use Rattle.std.proofs.Common.{refl, arith}
use Rattle.field.proofs.Squaring.{next_turn}
use Rattle.field.proofs.inverse.Goals as goal

pub loop-turn-preserved : goal.loop-turn-preserved
loop-turn-preserved c =
    next_turn _ _ _ _ _ _ _ _ _ refl (omega arith) c.digit_power.ensures c.multiply-result.ensures c.multiply-square.ensures c.loop-turn.invariant
