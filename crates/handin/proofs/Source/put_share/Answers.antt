-- An absent member has no line; a present member's is the letter P, its number and its share.
-- Assumes nothing.
use Rattle.std.proofs.Common.{sym}
use Rattle.handin.proofs.Writing.{present_room, present_written}
use Rattle.handin.proofs.Source.put_share.Goals as goal

pub put_list-requires : goal.put_list-requires
put_list-requires c = present_room _ _ _ _ _ _ c.share.ensures.words (sym c.if-has.ensures) _ _ c.requires.line_fits

pub returns-then-has-clause-written : goal.returns-then-has-clause-written
returns-then-has-clause-written c = present_written _ _ _ _ _ _ c.share.ensures.words (sym c.if-has.ensures) c.put_list.ensures.written
