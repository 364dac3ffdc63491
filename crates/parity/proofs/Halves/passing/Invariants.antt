-- `parity::Halves::passing`: the words below k have the sum 0.
-- Assumes nothing.
use Rattle.std.proofs.Common.{◌≡◌, ℕ, ◌<◌, eqb, true}
use Rattle.parity.specs.Internal.Summing.{sum_at}
use Rattle.parity.proofs.Halves.passing.Given as goal

abbrev pub invariant-loop-k : goal.invariant-loop-k
invariant-loop-k l = (j : ℕ) → j < l.k → eqb (sum_at l.self.low l.self.high j) 0 ≡ true
