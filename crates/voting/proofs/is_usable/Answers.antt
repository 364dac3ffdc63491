-- `voting::is_usable`: its two tests are those of a usable member.
-- Assumes nothing.
use Rattle.std.proofs.Common.{sym, ◌∙◌}
use Rattle.voting.proofs.Rows.{share_tested, second_test}
use Rattle.voting.proofs.is_usable.Goals as goal

pub returns-then-has : goal.returns-then-has
returns-then-has c = second_test _ _ (sym c.has.ensures ∙ c.if-has.true) _ (c.are_field_words.ensures ∙ share_tested _ _ _ _ _ c.share.ensures.words)
