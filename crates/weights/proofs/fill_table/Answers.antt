-- The lines of each n follow those of the n before, and at the end those of all fill the buffer.
-- Assumes nothing.
use Rattle.std.proofs.Common.{arith, rules, sym, ◌≡◌, ◌+◌, ◌-◌, length}
use Rattle.text.proofs.Pieces.{pieces_first, pieces_room, pieces_next, pieces_last}
use Rattle.text.proofs.Writing.{written_as}
use Rattle.weights.specs.WeightTable.{table}
use Rattle.weights.proofs.Lines.{next_lines, table_long, fills}
use Rattle.weights.proofs.fill_table.Goals as goal

pub loop-t-init : goal.loop-t-init
loop-t-init c = record { same_reference = search rules; lines = rw c.new-output.ensures.front (pieces_first _ _ _ _ (omega arith)) }

pub put_member_lines-requires : goal.put_member_lines-requires
put_member_lines-requires c =
    let long : length c.new-output.result.bytes.now ≡ 2858 = search rules in
    let room = pieces_room c.loop-t.invariant.lines (omega arith) (omega (arith, long, table_long)) in
    (omega arith, omega arith, rw (← next_lines c.loop-t.t (omega arith)) room)

pub loop-t-preserved : goal.loop-t-preserved
loop-t-preserved c =
    let e : c.loop-t.t - 1 + 1 ≡ c.loop-t.t + 1 - 1 = omega arith in
    let w = written_as (sym (next_lines c.loop-t.t (omega arith))) c.put_member_lines.ensures.written in
    record { same_reference = search rules; lines = rw e at (pieces_next c.loop-t.invariant.lines (omega arith) w) }

pub returns : goal.returns
unfolding table
returns c = fills (search rules) (pieces_last c.loop-t.invariant.lines (omega arith))
