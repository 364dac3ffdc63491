-- Each line follows those of the words before, with at most 14 bytes each.
-- Assumes nothing.
use Rattle.std.proofs.Common.{arith, rules}
use Rattle.text.proofs.Pieces.{pieces_first, pieces_next, pieces_last}
use Rattle.text.proofs.Writing.{written_as}
use Rattle.report.specs.Internal.Printing.{word_lines}
use Rattle.report.proofs.Lines.{word-line, words_short}
use Rattle.report.proofs.put_words.Goals as goal

pub loop-k-init : goal.loop-k-init
loop-k-init c = record { same_reference = search rules; lines = pieces_first _ _ _ _ (omega arith) }

pub put_word_line-requires : goal.put_word_line-requires
put_word_line-requires c =
    let w = c.loop-k.invariant.lines.written in
    let short = words_short c.args.secret.now (λ k. omega (arith, c.type_inv.secret k)) c.loop-k.k (omega arith) in
    (omega arith, omega (arith, c.requires.1, w.next, w.long, short))

pub loop-k-preserved : goal.loop-k-preserved
loop-k-preserved c =
    record {
      same_reference = search rules;
      lines = pieces_next c.loop-k.invariant.lines (omega arith) (written_as (word-line _ _) c.put_word_line.ensures.written);
    }

pub returns-clause-written : goal.returns-clause-written
unfolding word_lines
returns-clause-written c = pieces_last c.loop-k.invariant.lines (omega arith)
