-- `members::own_points`: the places below i hold i + 1.
-- Assumes nothing.
use Rattle.std.proofs.Common.{◌≡◌, ◌+◌, take}
use Rattle.lists.specs.Tabulate.{tab}
use Rattle.members.proofs.own_points.Given as goal

abbrev pub invariant-loop-i : goal.invariant-loop-i
invariant-loop-i l = take l.i l.points ≡ tab l.i (λ k. k + 1)
