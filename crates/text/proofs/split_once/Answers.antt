-- The bytes are one part where no place has the separator, and else the first part ends at the first place that has it.
-- Assumes nothing.
use Rattle.lists.proofs.Stores.{part_all}
use Rattle.text.proofs.Parts.{one_part, first_part}
use Rattle.text.proofs.split_once.Goals as goal

pub returns-in_err-i-clause-parts : goal.returns-in_err-i-clause-parts
returns-in_err-i-clause-parts c = rw c.from_residual.ensures (one_part c.args.separator c.args.bytes.now c.in_err-i.ensures)

pub returns-clause-parts : goal.returns-clause-parts
returns-clause-parts c =
    rw part_all (first_part c.args.separator c.args.bytes.now c.in_ok-i.i c.in_ok-i.ensures.0 c.in_ok-i.ensures.1.0 c.in_ok-i.ensures.1.1)
