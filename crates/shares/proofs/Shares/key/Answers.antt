-- `shares::Shares::key`: the keys come after the share words and the tags, α before β.
-- Assumes nothing.
use Rattle.shares.proofs.View.{α_is, β_is}
use Rattle.shares.proofs.Shares.key.Goals as goal

pub returns : goal.returns
returns c = (
  α_is c.args.self.now.shape c.args.self.now.words.now _ c.args.i c.share-share.ensures.words c.args.j c.requires.1,
  β_is c.args.self.now.shape c.args.self.now.words.now _ c.args.i c.share-share.ensures.words c.args.j c.requires.1,
)
