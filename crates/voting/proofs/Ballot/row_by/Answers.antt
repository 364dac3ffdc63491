-- `voting::Ballot::row_by`: one vote more.
-- Assumes nothing.
use Rattle.std.proofs.Common.{◌+◌, ◌∙◌, ap, arith}
use Rattle.voting.proofs.Counts.{total}
use Rattle.voting.proofs.Rows.{counts_none, counts_more, total_more}
use Rattle.voting.proofs.Ballot.row_by.Goals as goal

pub loop-j-init : goal.loop-j-init
loop-j-init g c = (ap total c.no_pairs.ensures, counts_none _ _ _ _ c.no_pairs.ensures)

pub loop-j-preserved : goal.loop-j-preserved
loop-j-preserved g c =
    let more = total_more _ _ _ c.with-at.ensures.pairs_value in (
      more ∙ ap (λ n. n + 1) c.loop-j.invariant.0,
      counts_more _ _ _ c.loop-j.at c.loop-j.j (omega arith) c.loop-j.invariant.1 _ c.test_tag.ensures c.with-at.result c.with-at.ensures.row_value c.with-at.ensures.pairs_value,
    )
