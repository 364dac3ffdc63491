-- `voting::Ballot::row_at_once`: the tests by the tags that a usable member has to have give the definition's votes.
-- Assumes nothing.
use Rattle.std.proofs.Common.{rules}
use Rattle.voting.proofs.Rows.{told_by_tags, row_counted}
use Rattle.voting.proofs.Ballot.row_at_once.Goals as goal

pub returns : goal.returns
returns c =
    row_counted c.args.self.now c.args.i _ _ c.row_by.ensures
    (λ j h l able called. told_by_tags c.args.self.now c.expect_usable.new.tags c.args.i j h l (c.expect_usable.ensures able) (search rules))
