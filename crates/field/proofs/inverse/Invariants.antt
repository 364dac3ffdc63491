-- `field::inverse`: the result so far, times the power of `square` that is still to come, is the inverse; each turn takes one binary digit of p − 2.
-- Assumes nothing.
use Rattle.field.proofs.Squaring.{Turn}
use Rattle.field.proofs.inverse.Given as goal

abbrev pub invariant-loop-turn : goal.invariant-loop-turn
invariant-loop-turn l = Turn l.a l.result l.square l.k l._turn
