-- The word, the two fields and the line's end are written one after the other.
-- Assumes nothing.
use Rattle.text.proofs.Printing.{written-line}
use Rattle.text.proofs.Output.put_line.Goals as goal

pub returns-clause-written : goal.returns-clause-written
returns-clause-written c = search written-line
