-- `polynomial::linear`: what is done, and then the definition on what is left, is the whole.
-- Assumes nothing.
use Rattle.std.proofs.Common.{length}
use Rattle.polynomial.specs.Internal.Newton.{linear_from}
use Rattle.polynomial.proofs.InPlace.{Multiplied}
use Rattle.polynomial.proofs.linear.Given as goal

abbrev pub invariant-loop-j : goal.invariant-loop-j
invariant-loop-j l = Multiplied l.x (length l.initial.words) (linear_from l.x l.initial.words l.i) l.words l.j
