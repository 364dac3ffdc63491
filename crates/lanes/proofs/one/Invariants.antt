-- `lanes::one`: the lanes below j have one word more, and the others are as they were.
-- Assumes nothing.
use Rattle.std.proofs.Common.{◌≡◌, get_or, take, drop}
use Rattle.lists.specs.Tabulate.{tab}
use Rattle.field.specs.Field.{sum, product}
use Rattle.lanes.proofs.one.Given as goal

abbrev pub invariant-loop-j : goal.invariant-loop-j
invariant-loop-j l =
    (take l.j l.values ≡ tab l.j (λ k. sum l.word (product (get_or l.points k 0) (get_or l.initial.values k 0)))) × (drop l.j l.values ≡ drop l.j l.initial.values)
