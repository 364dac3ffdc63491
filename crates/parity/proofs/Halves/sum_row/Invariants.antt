-- `parity::Halves::sum_row`: the members below i are summed.
-- Assumes nothing.
use Rattle.shares.specs.Layout.{share_word}
use Rattle.parity.specs.Internal.Summing.{Summed}
use Rattle.parity.proofs.Halves.sum_row.Given as goal

abbrev pub invariant-loop-i : goal.invariant-loop-i
invariant-loop-i l = Summed l.shares.shape.d (share_word l.shares.shape.t l.shares.shape.d l.shares.words.now) l.row l.i l.self.low l.self.high
