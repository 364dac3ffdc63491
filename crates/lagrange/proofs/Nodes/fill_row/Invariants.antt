-- `lagrange::Nodes::fill_row`: the words below m are those of the row.
-- Assumes nothing.
use Rattle.std.proofs.Common.{◌≡◌, take}
use Rattle.lists.specs.Tabulate.{tab}
use Rattle.lagrange.proofs.Lagrange.{entry_of}
use Rattle.lagrange.proofs.Nodes.fill_row.Given as goal

abbrev pub invariant-loop-m : goal.invariant-loop-m
invariant-loop-m l = take l.m l.row ≡ tab l.m (entry_of l.self.points.now l.x)
