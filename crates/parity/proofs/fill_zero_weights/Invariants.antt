-- `parity::fill_zero_weights`: the places below i hold their members' weights for the value at 0.
-- Assumes nothing.
use Rattle.std.proofs.Common.{◌≡◌, take}
use Rattle.lists.specs.Tabulate.{tab}
use Rattle.parity.specs.Internal.Looking.{zero_weight}
use Rattle.parity.proofs.fill_zero_weights.Given as goal

abbrev pub invariant-loop-i : goal.invariant-loop-i
invariant-loop-i l = take l.i l.row ≡ tab l.i (zero_weight l.shape.n)
