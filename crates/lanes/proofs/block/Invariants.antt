-- `lanes::block`: the lanes below j have eight words more, and the others are as they were.
-- Assumes nothing.
use Rattle.std.proofs.Common.{◌≡◌, [], get_or, take, drop}
use Rattle.lists.specs.Tabulate.{tab}
use Rattle.lanes.specs.Internal.Lanes.{eight_before}
use Rattle.lanes.proofs.block.Given as goal

abbrev pub invariant-loop-j : goal.invariant-loop-j
invariant-loop-j l =
    (take l.j l.values ≡ tab l.j (λ k. eight_before l.eight (λ m. get_or (get_or l.rows m []) k 0) (get_or l.initial.values k 0))) × (drop l.j l.values ≡ drop l.j l.initial.values)
