-- The first line, and those of the words after it.
-- Assumes nothing.
use Rattle.lists.specs.Ascii.{ascii}
use Rattle.text.proofs.Writing.{written_then}
use Rattle.report.specs.Internal.Printing.{answer_lines}
use Rattle.report.proofs.put_answer.Goals as goal

pub returns-in-Ok-clause-written : goal.returns-in-Ok-clause-written
unfolding ascii answer_lines
returns-in-Ok-clause-written c = rw c.in-Ok.is (written_then c.put_line.ensures.written c.put_words.ensures.written)
