-- `voting::fill_rows`: one row more, and its votes.
-- Assumes nothing.
use Rattle.std.proofs.Common.{ℕ, sym, arith}
use Rattle.lists.proofs.Loops.{tab_none, written_next}
use Rattle.shares.specs.declared.Shares.{Shares}
use Rattle.voting.specs.declared.Ballot.{Ballot}
use Rattle.voting.specs.Internal.Ballots.{row_of}
use Rattle.voting.proofs.Rows.{filling_first, filling_room, filling_next, pairs_last, rows_last}
use Rattle.voting.proofs.fill_rows.Goals as goal

abbrev ballot : Shares → ℕ → ℕ → Ballot
ballot shares day able = record { shares = shares; day = day; able = able }

pub loop-i-init : goal.loop-i-init
loop-i-init c = (sym (tab_none _), filling_first (ballot c.args.shares.now c.args.day c.args.able) _ c.no_pairs-pairs.ensures)

pub and-pairs-requires : goal.and-pairs-requires
and-pairs-requires c =
    filling_room (ballot c.args.shares.now c.args.day c.args.able) c.loop-i.pairs c.loop-i.i c.loop-i.invariant.1 _ c.row-at.ensures.pairs_value (omega arith)

pub loop-i-preserved : goal.loop-i-preserved
loop-i-preserved c =
    let b = ballot c.args.shares.now c.args.day c.args.able in (
      written_next (row_of b) c.loop-i.rows c.loop-i.i _ _ (omega arith) (omega arith) c.loop-i.invariant.0 c.row-at.ensures.row_value,
      filling_next b c.loop-i.pairs c.loop-i.i c.loop-i.invariant.1 _ c.row-at.ensures.pairs_value _ c.and-pairs.ensures,
    )

pub returns-clause-rows_after : goal.returns-clause-rows_after
returns-clause-rows_after c =
    rows_last (ballot c.args.shares.now c.args.day c.args.able) c.loop-i.rows c.loop-i.i (omega arith) (omega arith) c.loop-i.invariant.0

pub returns-clause-result_value : goal.returns-clause-result_value
returns-clause-result_value c =
    pairs_last (ballot c.args.shares.now c.args.day c.args.able) c.loop-i.pairs c.loop-i.i c.loop-i.invariant.1 (omega arith)
