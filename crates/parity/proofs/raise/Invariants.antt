-- `parity::raise`: the places below i are multiplied by their points, the others are as they were.
-- Assumes nothing.
use Rattle.std.proofs.Common.{◌≡◌, suc, take, drop, get_or}
use Rattle.lists.specs.Tabulate.{tab}
use Rattle.field.specs.Field.{product}
use Rattle.parity.proofs.raise.Given as goal

abbrev pub invariant-loop-i : goal.invariant-loop-i
invariant-loop-i l = (take l.i l.row ≡ tab l.i (λ k. product (get_or l.initial.row k 0) (suc k))) × (drop l.i l.row ≡ drop l.i l.initial.row)
