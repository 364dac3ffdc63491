-- The bytes are copied into their place.
-- Assumes nothing.
use Rattle.std.proofs.Common.{arith, rules}
use Rattle.text.proofs.Writing.{written_copied}
use Rattle.text.proofs.Output.put_bytes.Goals as goal

pub returns-clause-written : goal.returns-clause-written
returns-clause-written c =
    written_copied c.args.self.now.bytes.now c.args.bytes.now _ c.args.self.now.end _ _ (search rules) (search rules) (omega arith) (omega arith)
