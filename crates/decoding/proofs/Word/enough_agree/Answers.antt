-- `decoding::Word::enough_agree`: the mask has no bit beyond the n members, so its count is theirs.
-- Assumes nothing.
use Rattle.std.proofs.Common.{ap₂}
use lib.Dec.{leb}
use Rattle.decoding.proofs.Tried.{need_is}
use Rattle.decoding.proofs.Word.enough_agree.Goals as goal

pub returns : goal.returns
returns c = ap₂ leb (need_is _ _ _ _ c.args.self.now.small c.args.self.now.proper c.card.ensures c.need-least.ensures) c.agreeing.ensures
