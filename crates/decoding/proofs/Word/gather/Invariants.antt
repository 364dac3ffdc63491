-- `decoding::Word::gather`: what is at hand is what the members before i gave, and t + 1 are not yet there.
-- Assumes nothing.
use Rattle.std.proofs.Common.{◌≤◌}
use Rattle.decoding.proofs.Turns.{Gathering}
use Rattle.decoding.proofs.Word.gather.Given as goal

abbrev pub invariant-loop-i : goal.invariant-loop-i
invariant-loop-i l = record {
  so_far : Gathering l.self.points.now l.self.t l.self.values.now l.self.set l.e l.chosen l.kept l.found l.i;
  not_all : l.found ≤ l.self.t;
}
