-- `lagrange::fill_weights`: the words below m are the points' weights.
-- Assumes nothing.
use Rattle.std.proofs.Common.{◌≡◌, take}
use Rattle.lists.specs.Tabulate.{tab}
use Rattle.lagrange.specs.Internal.Lagrange.{weight}
use Rattle.lagrange.proofs.fill_weights.Given as goal

abbrev pub invariant-loop-m : goal.invariant-loop-m
invariant-loop-m l = take l.m l.weights ≡ tab l.m (weight l.points)
