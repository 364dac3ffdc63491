-- The word, the first field and the rest of the line are written one after the other.
-- Assumes nothing.
use Rattle.text.proofs.Printing.{written_list}
use Rattle.text.proofs.Output.put_list.Goals as goal

pub returns-clause-written : goal.returns-clause-written
returns-clause-written c = search written_list
