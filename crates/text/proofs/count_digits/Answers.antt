-- `text::count_digits`: a power that the number reaches counts; at the first that it does not, and after all, the count is that of the digits.
-- Assumes nothing.
use Rattle.std.proofs.Common.{arith}
use Rattle.text.proofs.Digits.{counted_none, counted_done, counted_all}
use Rattle.text.proofs.count_digits.Goals as goal

pub loop-power-init : goal.loop-power-init
loop-power-init c = counted_none c.args.n

pub returns-then-n-power-clause-exact : goal.returns-then-n-power-clause-exact
returns-then-n-power-clause-exact c = counted_done c.loop-power.invariant c.loop-power-test.true c.if-n-power.true

pub returns-clause-exact : goal.returns-clause-exact
returns-clause-exact c = counted_all c.loop-power.invariant (omega arith) (omega arith)
