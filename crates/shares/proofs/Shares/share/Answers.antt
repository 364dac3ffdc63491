-- `shares::Shares::share`: the words of one of n shares of the station's width.
-- Assumes nothing.
use Rattle.shares.proofs.View.{share_is}
use Rattle.shares.proofs.Shares.share.Goals as goal

pub returns-clause-words : goal.returns-clause-words
returns-clause-words c = share_is c.args.self.now.shape c.args.self.now.words.now c.args.self.now.long c.args.i c.requires
