-- `polynomial::divide`: what is done, and then the divided differences of what is left, are the whole.
-- Assumes nothing.
use Rattle.std.proofs.Common.{length}
use Rattle.polynomial.specs.Internal.Newton.{divided}
use Rattle.polynomial.proofs.Newton.{Divided}
use Rattle.polynomial.proofs.divide.Given as goal

abbrev pub invariant-loop-i : goal.invariant-loop-i
invariant-loop-i l = Divided l.points (length l.initial.values) (divided l.points l.initial.values) l.values l.i
