-- `polynomial::slopes`: a turn makes one slope by the definition.
-- Assumes nothing.
use Rattle.std.proofs.Common.{arith}
use Rattle.polynomial.proofs.InPlace.{slopes_next, slopes_last}
use Rattle.polynomial.proofs.slopes.Goals as goal

pub loop-j-preserved : goal.loop-j-preserved
loop-j-preserved c =
    slopes_next _ _ _ _ _ _ _ _ _ _ (omega arith) c.loop-j.invariant c.subtract-rise.ensures c.inverse_of_difference.ensures c.multiply.ensures

pub returns : goal.returns
returns c = slopes_last _ _ _ _ _ _ _ (omega arith) c.loop-j.invariant
