-- `lanes::next_powers`: the places below j have the next power, and the others are as they were.
-- Assumes nothing.
use Rattle.std.proofs.Common.{◌≡◌, get_or, take, drop}
use Rattle.lists.specs.Tabulate.{tab}
use Rattle.field.specs.Field.{product}
use Rattle.lanes.proofs.next_powers.Given as goal

abbrev pub invariant-loop-j : goal.invariant-loop-j
invariant-loop-j l =
    (take l.j l.row ≡ tab l.j (λ k. product (get_or l.initial.row k 0) (get_or l.points k 0))) × (drop l.j l.row ≡ drop l.j l.initial.row)
