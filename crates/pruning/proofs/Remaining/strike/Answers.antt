-- `pruning::Remaining::strike`: a vote that is taken off is there.
-- Assumes nothing.
use Rattle.std.proofs.Common.{◌<◌, arith}
use Rattle.members.specs.Members.{size}
use Rattle.pruning.proofs.Steps.{counted_long, vote_there}
use Rattle.pruning.proofs.Remaining.strike.Goals as goal

pub votes_left-requires : goal.votes_left-requires
votes_left-requires c =
    let inside : c.loop-k.k < size c.args.self.votes.t = omega (arith, counted_long _ _ _ _ c.args.self.exact) in
    omega (arith, vote_there _ _ _ _ _ _ c.args.self.votes.table c.requires.0 c.requires.1 inside c.loop-k.invariant.1)
