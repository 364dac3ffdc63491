-- `polynomial::fill_powers`: the words before place m are powers.
-- Assumes nothing.
use Rattle.polynomial.proofs.Powers.{Made}
use Rattle.polynomial.proofs.fill_powers.Given as goal

abbrev pub invariant-loop-m : goal.invariant-loop-m
invariant-loop-m l = Made l.x l.powers l.m
