-- `parity::count_balanced`: before sum m the row is that of the power m, and the words left have the sums before it all 0.
-- Assumes nothing.
use Rattle.shares.specs.Layout.{share_word}
use Rattle.parity.proofs.Turns.{Balancing}
use Rattle.parity.proofs.count_balanced.Given as goal

abbrev pub invariant-loop-m : goal.invariant-loop-m
invariant-loop-m l = Balancing l.shares.shape.t l.shares.shape.d (share_word l.shares.shape.t l.shares.shape.d l.shares.words.now) l.row l.left l.m
