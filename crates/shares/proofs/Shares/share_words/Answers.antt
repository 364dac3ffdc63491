-- `shares::Shares::share_words`: the first d words of the share.
-- Assumes nothing.
use Rattle.shares.proofs.View.{words_are}
use Rattle.shares.proofs.Shares.share_words.Goals as goal

pub returns : goal.returns
returns c = words_are c.args.self.now.shape c.args.self.now.words.now _ c.args.i c.share-share.ensures.words
