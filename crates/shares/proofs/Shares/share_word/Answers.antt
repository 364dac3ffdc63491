-- `shares::Shares::share_word`: the share words come first.
-- Assumes nothing.
use Rattle.std.proofs.Common.{arith}
use Rattle.shares.proofs.View.{word_is}
use Rattle.shares.proofs.Shares.share_word.Goals as goal

pub returns : goal.returns
returns c =
    word_is c.args.self.now.shape c.args.self.now.words.now _ c.args.i c.share-share.ensures.words c.args.k
    (omega (arith, c.requires.1))
