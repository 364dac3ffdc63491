-- `pruning::Votes::count`: the counts of the first i members are written.
-- Assumes nothing.
use Rattle.std.proofs.Common.{◌≡◌, take}
use Rattle.lists.specs.Tabulate.{tab}
use Rattle.members.specs.Members.{size, first_of}
use Rattle.pruning.specs.Pruning.{votes}
use Rattle.pruning.proofs.Votes.count.Given as goal

abbrev pub invariant-loop-i : goal.invariant-loop-i
invariant-loop-i l = take l.i l.counts ≡ tab l.i (votes l.self.t l.self.rows.now (first_of (size l.self.t)))
