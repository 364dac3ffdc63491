-- `parity::look`: the array has room for a row of n words, and there are no sums yet, so that they fit.
-- Assumes nothing.
use Rattle.std.proofs.Common.{refl}
use Rattle.parity.proofs.Summing.{cleared, cleared_fits}
use Rattle.parity.proofs.look.Goals as goal

pub invariant_of-sums : goal.invariant_of-sums
invariant_of-sums c = record { fits = cleared_fits 31 (cleared 64 64 refl refl) }
