-- The first number and the rest of the line are written one after the other.
-- Assumes nothing.
use Rattle.text.proofs.Printing.{written_numbers}
use Rattle.text.proofs.Output.put_numbers.Goals as goal

pub returns-clause-written : goal.returns-clause-written
returns-clause-written c = search written_numbers
