-- `parity::Halves::store_values`: the sums of the words below k are stored.
-- Assumes nothing.
use Rattle.std.proofs.Common.{◌≡◌, take}
use Rattle.lists.specs.Tabulate.{tab}
use Rattle.parity.specs.Internal.Summing.{sum_at}
use Rattle.parity.proofs.Halves.store_values.Given as goal

abbrev pub invariant-loop-k : goal.invariant-loop-k
invariant-loop-k l = take l.k l.values ≡ tab l.k (sum_at l.self.low l.self.high)
