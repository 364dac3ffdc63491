-- `polynomial::evaluate_by`: sixteen coefficients at a time, from the last.
-- Assumes nothing.
use Rattle.std.proofs.Common.{rules}
use Rattle.polynomial.proofs.Folds.{by_sixteens}
use Rattle.polynomial.proofs.evaluate_by.Goals as goal

pub returns : goal.returns
returns c = by_sixteens _ _ _ c.by_four.result _ c.requires (search rules) (search rules) (search rules)
