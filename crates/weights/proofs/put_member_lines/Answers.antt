-- Each line follows those of the members before, and has room where all have.
-- Assumes nothing.
use Rattle.std.proofs.Common.{arith, rules, ◌<◌}
use Rattle.members.specs.Members.{size}
use Rattle.text.proofs.Pieces.{pieces_first, pieces_room, pieces_next, pieces_last}
use Rattle.weights.specs.WeightTable.{member_lines}
use Rattle.weights.proofs.put_member_lines.Goals as goal

pub loop-i-init : goal.loop-i-init
loop-i-init c = record { same_reference = search rules; lines = pieces_first _ _ _ _ (omega arith) }

pub put_weight_line-requires : goal.put_weight_line-requires
unfolding member_lines
put_weight_line-requires c =
    let more : c.loop-i.i < size c.args.t = omega arith in
    (c.requires.0, c.requires.1, more, pieces_room c.loop-i.invariant.lines more c.requires.2)

pub loop-i-preserved : goal.loop-i-preserved
loop-i-preserved c =
    let more : c.loop-i.i < size c.args.t = omega arith in
    record { same_reference = search rules; lines = pieces_next c.loop-i.invariant.lines more c.put_weight_line.ensures.written }

pub returns-clause-written : goal.returns-clause-written
unfolding member_lines
returns-clause-written c = pieces_last c.loop-i.invariant.lines (omega arith)
