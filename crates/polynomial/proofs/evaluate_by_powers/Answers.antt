-- `polynomial::evaluate_by_powers`: the others times the powers from 1 on, and the constant, are the polynomial's terms.
-- Assumes nothing.
use Rattle.polynomial.proofs.Powers.{by_powers}
use Rattle.polynomial.proofs.evaluate_by_powers.Goals as goal

pub returns : goal.returns
returns c = search by_powers
