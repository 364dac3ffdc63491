-- `pruning::Remaining::strike`: the counts of the first k members are those after the strike, and the others those of before.
-- Assumes nothing.
use Rattle.std.proofs.Common.{◌≡◌, take, drop}
use Rattle.lists.specs.Tabulate.{tab}
use Rattle.members.specs.Members.{striking}
use Rattle.pruning.specs.Pruning.{votes}
use Rattle.pruning.specs.Counts.{counted}
use Rattle.pruning.proofs.Remaining.strike.Given as goal

abbrev pub invariant-loop-k : goal.invariant-loop-k
invariant-loop-k l =
    (take l.k l.counts ≡ tab l.k (votes l.votes.t l.votes.rows.now (striking l.set l.i)))
    × (drop l.k l.counts ≡ drop l.k (counted l.votes.t l.votes.rows.now l.set))
