-- The lines of the first k words are written.
-- Assumes nothing.
use Rattle.std.proofs.Common.{◌≡◌, length}
use Rattle.text.proofs.Pieces.{Pieces}
use Rattle.report.specs.Report.{word_line}
use Rattle.report.proofs.put_words.Given as goal

abbrev pub invariant-loop-k : goal.invariant-loop-k
invariant-loop-k l =
    record {
      same_reference : l.output.bytes.ghost_name ≡ l.initial.output.bytes.ghost_name;
      lines : Pieces (length l.secret) (word_line l.secret) l.initial.output.bytes.now l.initial.output.end l.output.bytes.now l.output.end l.k;
    }
