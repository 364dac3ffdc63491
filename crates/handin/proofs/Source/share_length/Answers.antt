-- A present member's line is the letter P, its number and its share.
-- Assumes nothing.
use Rattle.std.proofs.Common.{sym}
use Rattle.handin.proofs.Writing.{present_length}
use Rattle.handin.proofs.Source.share_length.Goals as goal

pub returns : goal.returns
returns c = present_length _ _ _ _ _ _ c.share.ensures.words (sym c.if-not-has.ensures) c.list_length.ensures
