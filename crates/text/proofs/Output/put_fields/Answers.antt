-- The fields are pieces that are written one after the other.
-- Assumes nothing.
use Rattle.std.proofs.Common.{arith, rules, ◌<◌, length}
use Rattle.text.proofs.FieldLists.{fields_pieces, fields_length}
use Rattle.text.proofs.Pieces.{pieces_first, pieces_room, pieces_next, pieces_last}
use Rattle.text.proofs.Writing.{written_as}
use Rattle.text.proofs.Output.put_fields.Goals as goal

pub loop-n-init : goal.loop-n-init
loop-n-init c = record { same_reference = search rules; pieces = pieces_first _ _ _ _ (omega arith) }

pub put_field-requires : goal.put_field-requires
put_field-requires c =
    let more : c.loop-n.n-index < length c.args.numbers.now = omega arith in
    pieces_room c.loop-n.invariant.pieces more (omega (arith, fields_length c.args.numbers.now))

pub loop-n-preserved : goal.loop-n-preserved
loop-n-preserved c =
    let more : c.loop-n.n-index < length c.args.numbers.now = omega arith in
    record { same_reference = search rules; pieces = pieces_next c.loop-n.invariant.pieces more c.put_field.ensures.written }

pub returns-clause-written : goal.returns-clause-written
returns-clause-written c = written_as (fields_pieces c.args.numbers.now) (pieces_last c.loop-n.invariant.pieces (omega arith))
