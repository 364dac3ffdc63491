-- `parity::fill_weights`: the places below i hold their members' weights.
-- Assumes nothing.
use Rattle.std.proofs.Common.{◌≡◌, take}
use Rattle.lists.specs.Tabulate.{tab}
use Rattle.parity.specs.Parity.{weight}
use Rattle.parity.proofs.fill_weights.Given as goal

abbrev pub invariant-loop-i : goal.invariant-loop-i
invariant-loop-i l = take l.i l.row ≡ tab l.i (weight l.shape.n)
