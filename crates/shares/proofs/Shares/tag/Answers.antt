-- `shares::Shares::tag`: the tags come after the share words.
-- Assumes nothing.
use Rattle.shares.proofs.View.{tag_is}
use Rattle.shares.proofs.Shares.tag.Goals as goal

pub returns : goal.returns
returns c = tag_is c.args.self.now.shape c.args.self.now.words.now _ c.args.i c.share-share.ensures.words c.args.j c.requires.1
