-- `polynomial::divide`: the slopes from point i are one step of the divided differences.
-- Assumes nothing.
use Rattle.polynomial.proofs.Newton.{divided_next, divided_last}
use Rattle.polynomial.proofs.divide.Goals as goal

pub loop-i-preserved : goal.loop-i-preserved
loop-i-preserved c = divided_next _ _ _ _ _ _ c.loop-i-test.true c.loop-i.invariant c.slopes.ensures

pub returns : goal.returns
returns c = divided_last _ _ _ _ _ c.loop-i-test.false c.loop-i.invariant
