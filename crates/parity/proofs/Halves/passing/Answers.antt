-- `parity::Halves::passing`: the first sum that is not 0 ends them.
-- Assumes nothing.
use Rattle.std.proofs.Common.{below_more, arith}
use Rattle.parity.proofs.Turns.{not_0, is_0, leading_stops, leading-all}
use Rattle.parity.proofs.Halves.passing.Goals as goal

pub loop-k-preserved : goal.loop-k-preserved
loop-k-preserved c = below_more _ _ c.loop-k.invariant (is_0 c.at.ensures c.if-at-ne0.false)

pub returns-then-at-ne0 : goal.returns-then-at-ne0
returns-then-at-ne0 c = leading_stops _ _ _ c.loop-k-test.true c.loop-k.invariant (not_0 c.at.ensures c.if-at-ne0.true)

pub returns : goal.returns
returns c = leading-all _ _ (λ j l. c.loop-k.invariant j (omega arith))
