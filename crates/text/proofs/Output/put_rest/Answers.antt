-- The fields, and the byte 10 after them.
-- Assumes nothing.
use Rattle.text.proofs.Writing.{written_then}
use Rattle.text.proofs.Output.put_rest.Goals as goal

pub returns-clause-written : goal.returns-clause-written
returns-clause-written c = search written_then
