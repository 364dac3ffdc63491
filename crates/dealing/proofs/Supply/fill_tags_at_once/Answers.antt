-- `dealing::Supply::fill_tags_at_once`: under the keys that it gathers, the first n tags are the member's.
-- Assumes nothing.
use Rattle.std.proofs.Common.{◌∙◌, rules}
use Rattle.dealing.specs.Dealing.{dealt_α, dealt_β}
use Rattle.dealing.proofs.Filling.{tags_made}
use Rattle.dealing.proofs.Supply.fill_tags_at_once.Goals as goal

pub returns : goal.returns
returns c =
    let s = c.args.self.now in
    let keys = c.gather_keys.ensures.keys (λ k. dealt_α s.shape.t s.shape.d s.random.now k c.args.i) (λ k. dealt_β s.shape.t s.shape.d s.random.now k c.args.i) (λ k r l called. search rules) in
    c.copy.ensures
    ∙ tags_made s.shape s.day c.args.i s.random.now c.args.words.now _ _ _ keys.0 keys.1 c.tags_with_first.ensures
