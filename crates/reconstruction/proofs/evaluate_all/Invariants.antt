-- `reconstruction::evaluate_all`: the places below x hold the values there.
-- Assumes nothing.
use Rattle.std.proofs.Common.{◌≡◌, take}
use Rattle.lists.specs.Tabulate.{tab}
use Rattle.polynomial.specs.Polynomial.{value}
use Rattle.reconstruction.proofs.evaluate_all.Given as goal

abbrev pub invariant-loop-x : goal.invariant-loop-x
invariant-loop-x l = take l.x l.expected ≡ tab l.x (value l.f)
