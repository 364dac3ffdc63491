-- The three numbers are n, the member's place counted from 1, and the weight from the table.
-- Assumes nothing.
use Rattle.std.proofs.Common.{arith, rules}
use Rattle.members.proofs.Words.{size_31}
use Rattle.weights.proofs.Lines.{line_room, line-written}
use Rattle.weights.proofs.put_weight_line.Goals as goal

pub overflow_cast-numbers : goal.overflow_cast-numbers
overflow_cast-numbers c = omega (arith, size_31 c.args.t c.requires.1)

pub overflow_cast-n : goal.overflow_cast-n
overflow_cast-n c = omega (arith, size_31 c.args.t c.requires.1)

pub put_numbers-requires : goal.put_numbers-requires
put_numbers-requires c = line_room c.args.t c.size-n.result c.args.i c.weight.result c.size-n.ensures (search rules) _ _ (omega arith)

pub returns-clause-written : goal.returns-clause-written
returns-clause-written c = line-written c.args.t c.size-n.result c.args.i c.weight.result c.size-n.ensures (search rules) c.put_numbers.ensures.written
