-- `lanes::powers`: one row more.
-- Assumes nothing.
use Rattle.std.proofs.Common.{sym, ◌∙◌, arith}
use Rattle.std.proofs.Math.ListN.{length-set}
use Rattle.lists.proofs.Loops.{tab_none, written_next}
use Rattle.lanes.proofs.Values.{row_of, first_row, next_row}
use Rattle.lanes.proofs.powers.Goals as goal

pub loop-m-init : goal.loop-m-init
loop-m-init c =
    let own = first_row c.args.points.now c.told-points in
    record {
      long = length-set _ _ _ ∙ c.told-rows;
      last = own;
      so_far = written_next (row_of c.args.points.now) _ 0 1 _ (omega arith) (omega (arith, c.told-rows)) (sym (tab_none _)) own;
    }

pub loop-m-preserved : goal.loop-m-preserved
loop-m-preserved c =
    let now = next_row c.args.points.now _ _ c.loop-m.m c.loop-m.invariant.last c.next_powers.ensures in
    record {
      long = length-set _ _ _ ∙ c.loop-m.invariant.long;
      last = now;
      so_far = written_next (row_of c.args.points.now) _ _ _ _ (omega arith) (omega (arith, c.loop-m.invariant.long)) c.loop-m.invariant.so_far now;
    }
