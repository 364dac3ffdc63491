-- `polynomial::by_four`: four coefficients at a time, from the last.
-- Assumes nothing.
use Rattle.std.proofs.Common.{rules}
use Rattle.polynomial.proofs.Folds.{by_fours}
use Rattle.polynomial.proofs.by_four.Goals as goal

pub returns : goal.returns
returns c =
    by_fours _ _ _ _ _ c.horner.result _ c.multiply-square.ensures c.multiply-cube.ensures c.multiply-fourth.ensures (search rules) (search rules)
