-- `voting::Ballot::test_tag`: its three tests are those of the definition.
-- Assumes nothing.
use Rattle.voting.proofs.Rows.{unusable_member, unusable_voter, tag_mismatched, tag_accepted}
use Rattle.voting.proofs.Ballot.test_tag.Goals as goal

pub returns-then-not-has : goal.returns-then-not-has
returns-then-not-has g c = λ b told. unusable_member _ _ _ b _ c.has.ensures c.if-not-has.true

pub returns-then-not-has-2 : goal.returns-then-not-has-2
returns-then-not-has-2 g c = λ b told. unusable_voter _ _ _ b _ c.has-2.ensures c.if-not-has-2.true

pub returns-then-not-holds : goal.returns-then-not-holds
returns-then-not-holds g c =
    λ b told.
    tag_mismatched _ _ _ b _ c.has.ensures c.if-not-has.false _ c.has-2.ensures c.if-not-has-2.false _ (λ able. told _ able c.holds.ensures) c.if-not-holds.true

pub returns : goal.returns
returns g c =
    λ b told.
    tag_accepted _ _ _ b _ c.has.ensures c.if-not-has.false _ c.has-2.ensures c.if-not-has-2.false _ (λ able. told _ able c.holds.ensures) c.if-not-holds.false
