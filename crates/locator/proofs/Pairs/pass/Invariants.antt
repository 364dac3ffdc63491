-- `locator::Pairs::pass`: the pairs are the state after i members.
-- Assumes nothing.
use Rattle.std.proofs.Common.{◌≡◌, ◌+◌, ◌≤◌, get_or}
use Rattle.locator.specs.Internal.Pairs.{passed, state_of}
use Rattle.locator.proofs.Pairs.pass.Given as goal

abbrev pub invariant-loop-i : goal.invariant-loop-i
invariant-loop-i l = record {
  same_t : l.self.t ≡ l.initial.self.t;
  degrees : l.self.first.degree + l.self.second.degree ≤ l.i;
  so_far : state_of l.self.first l.self.second ≡ passed l.points l.initial.self.t (λ k. get_or l.values k 0) l.set 31 l.i;
}
