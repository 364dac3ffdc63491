-- `voting::usable_members`: the members that pass the test are the usable ones.
-- Assumes nothing.
use Rattle.std.proofs.Common.{◌&&◌, ℕ, ap, ◌∙◌, rules}
use Rattle.members.specs.Members.{has, set_of}
use Rattle.voting.specs.Votes.{field_share, usable}
use Rattle.voting.proofs.usable_members.Goals as goal

pub returns : goal.returns
unfolding usable
returns c =
    let s = c.args.shares.now.shape in
    let p : ℕ → _ = λ k. has c.args.present k && field_share s.t s.d c.args.shares.now.words.now k in
    c.those.ensures p (λ i b l called. search rules) ∙ ap (λ (n : ℕ). set_of n p) s.members
