-- The lines are pieces that are written one after the other.
-- Assumes nothing.
use Rattle.std.proofs.Common.{arith, rules}
use Rattle.text.proofs.Pieces.{pieces_first, pieces_room, pieces_next, pieces_last}
use Rattle.handin.specs.Writer.{share_lines}
use Rattle.handin.proofs.Source.put_shares.Goals as goal

pub loop-i-init : goal.loop-i-init
loop-i-init c = record { same_reference = search rules; pieces = pieces_first _ _ _ _ (omega arith) }

pub put_share-requires-clause-line_fits : goal.put_share-requires-clause-line_fits
unfolding share_lines
put_share-requires-clause-line_fits c = pieces_room c.loop-i.invariant.pieces c.loop-i-test.true c.requires

pub loop-i-preserved : goal.loop-i-preserved
loop-i-preserved c = record { same_reference = search rules; pieces = pieces_next c.loop-i.invariant.pieces c.loop-i-test.true c.put_share.ensures.written }

pub returns-clause-written : goal.returns-clause-written
unfolding share_lines
returns-clause-written c = pieces_last c.loop-i.invariant.pieces (omega arith)
