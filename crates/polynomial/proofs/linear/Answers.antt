-- `polynomial::linear`: a turn makes one coefficient by the definition, and the last has nothing after it.
-- Assumes nothing.
use Rattle.polynomial.proofs.InPlace.{linear_next, linear_last}
use Rattle.polynomial.proofs.linear.Goals as goal

pub loop-j-preserved : goal.loop-j-preserved
loop-j-preserved c = linear_next _ _ _ _ _ _ _ c.loop-j-test.true c.loop-j.invariant c.subtract-minus.ensures c.add_product.ensures

pub returns : goal.returns
returns c = linear_last _ _ _ _ _ _ c.loop-j-test.false c.loop-j.invariant c.add.ensures
