-- `parity::count_balanced`: each turn takes one sum more; the first word fails where none is left.
-- Assumes nothing.
use Rattle.std.proofs.Common.{arith}
use Rattle.parity.proofs.Turns.{balancing_first, balancing_few, balancing_next, balancing_none, balancing_last}
use Rattle.parity.proofs.count_balanced.Goals as goal

pub loop-m-init : goal.loop-m-init
loop-m-init c = balancing_first _ _ _ _ _ c.args.shares.now.shape.members c.fill_weights.ensures

pub returns-then-left-eq0 : goal.returns-then-left-eq0
returns-then-left-eq0 c = balancing_none _ _ _ _ _ _ c.loop-m.invariant c.if-left-eq0.true

pub passing-left-requires : goal.passing-left-requires
passing-left-requires c = record { most_bound = omega (arith, balancing_few _ _ _ _ _ _ c.loop-m.invariant, c.args.shares.now.shape.d_high) }

pub loop-m-preserved : goal.loop-m-preserved
loop-m-preserved c =
    balancing_next _ _ _ _ _ _ c.loop-m.invariant c.loop-m-test.true _ c.args.shares.now.shape.members _ _ c.sum_row.ensures _ _ c.passing-left.ensures c.raise.ensures

pub returns : goal.returns
returns c = balancing_last _ _ _ _ _ _ c.loop-m.invariant (omega arith)
