-- `voting::Ballot::expect_usable`: a member that is not usable need not have any tags.
-- Assumes nothing.
use Rattle.std.proofs.Common.{sym, ◌∙◌}
use Rattle.lists.proofs.Bools.{clash}
use Rattle.voting.proofs.Ballot.expect_usable.Goals as goal

pub returns-then-not-has : goal.returns-then-not-has
returns-then-not-has c = λ usable. absurd (clash usable (sym c.has.ensures ∙ c.if-not-has.true))
