-- `lanes::powers`: m + 1 rows have their powers, and `power` has the last of them.
-- Assumes nothing.
use Rattle.std.proofs.Common.{◌≡◌, ◌+◌, length, take}
use Rattle.lists.specs.Tabulate.{tab}
use Rattle.lanes.proofs.Values.{row_of}
use Rattle.lanes.proofs.powers.Given as goal

abbrev pub invariant-loop-m : goal.invariant-loop-m
invariant-loop-m l = record {
  long : length l.rows ≡ 8;
  last : l.power ≡ row_of l.points l.m;
  so_far : take (l.m + 1) l.rows ≡ tab (l.m + 1) (row_of l.points);
}
