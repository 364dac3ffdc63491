-- `polynomial::slopes`: what is done, and then the slopes of what is left, are the whole.
-- Assumes nothing.
use Rattle.std.proofs.Common.{length}
use Rattle.polynomial.specs.Internal.Newton.{slopes_from}
use Rattle.polynomial.proofs.InPlace.{Sloped}
use Rattle.polynomial.proofs.slopes.Given as goal

abbrev pub invariant-loop-j : goal.invariant-loop-j
invariant-loop-j l = Sloped l.x l.y l.points (length l.initial.values) (slopes_from l.points l.initial.values l.i) l.values l.j
