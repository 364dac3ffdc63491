-- `parity::Halves::add_member`: the products of the words below k are added.
-- Assumes nothing.
use Rattle.parity.specs.Internal.Summing.{Added}
use Rattle.parity.proofs.Halves.add_member.Given as goal

abbrev pub invariant-loop-k : goal.invariant-loop-k
invariant-loop-k l = Added l.weight l.words l.initial.self.low l.initial.self.high l.k l.self.low l.self.high
