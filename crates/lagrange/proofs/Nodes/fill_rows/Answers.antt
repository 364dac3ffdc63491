-- `lagrange::Nodes::fill_rows`: a row that is written leaves those before it as they are.
-- Assumes nothing.
use Rattle.std.proofs.Common.{arith, length-set}
use Rattle.lagrange.proofs.Rows.{rows_next}
use Rattle.lagrange.proofs.Nodes.fill_rows.Goals as goal

pub loop-x-preserved : goal.loop-x-preserved
loop-x-preserved c =
    (simp length-set c.loop-x.invariant.0, rows_next _ _ _ _ (omega arith) c.loop-x.invariant.1 c.fill_row.ensures)
