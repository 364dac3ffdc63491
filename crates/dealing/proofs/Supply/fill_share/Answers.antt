-- `dealing::Supply::fill_share`: the share words at the member's point, the tags of them and the keys are the share.
-- Assumes nothing.
use Rattle.dealing.proofs.Filling.{share_built}
use Rattle.dealing.proofs.Supply.fill_share.Goals as goal

pub returns : goal.returns
returns c =
    let s = c.args.self.now in
    share_built c.args.points.now s.shape.t s.shape.d s.day c.args.i s.secret.now s.random.now _ _ _
    s.supplied.secret_long c.fill_words.ensures c.fill_tags.ensures c.fill_keys.ensures
