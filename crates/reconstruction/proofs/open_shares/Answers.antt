-- `reconstruction::open_shares`: the usable members, and the votes of their shares.
-- Assumes nothing.
use Rattle.reconstruction.proofs.Halves.{votes_voted}
use Rattle.reconstruction.proofs.open_shares.Goals as goal

pub open_voted-requires-clause-voted : goal.open_voted-requires-clause-voted
open_voted-requires-clause-voted c =
    votes_voted c.args.shares.now _ _ _ c.usable_members-able.ensures _ c.fill_rows-pairs.ensures.rows_after
