-- `voting::Ballot::row_singly`: the tests of the single tags give the definition's votes.
-- Assumes nothing.
use Rattle.std.proofs.Common.{rules}
use Rattle.voting.proofs.Rows.{row_counted}
use Rattle.voting.proofs.Ballot.row_singly.Goals as goal

pub returns : goal.returns
returns c = row_counted c.args.self.now c.args.i _ _ c.row_by.ensures (λ j h l able called. search rules)
