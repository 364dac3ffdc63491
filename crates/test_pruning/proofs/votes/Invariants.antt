-- Each place adds at most 1.
use Rattle.std.proofs.Common.{◌≤◌}
use Rattle.test_pruning.proofs.votes.Given as goal

abbrev pub invariant-loop-j : goal.invariant-loop-j
invariant-loop-j l = l.n ≤ l.j
