-- `polynomial::expand`: the divided differences before i, and then the coefficients of the rest.
-- Assumes nothing.
use Rattle.polynomial.proofs.Newton.{Expanded}
use Rattle.polynomial.proofs.expand.Given as goal

abbrev pub invariant-loop-i : goal.invariant-loop-i
invariant-loop-i l = Expanded l.points l.initial.words l.words l.i
