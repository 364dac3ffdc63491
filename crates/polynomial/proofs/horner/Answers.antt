-- `polynomial::horner`: one coefficient at a time, from the last.
-- Assumes nothing.
use Rattle.std.proofs.Common.{rules}
use Rattle.polynomial.proofs.Folds.{by_one}
use Rattle.polynomial.proofs.horner.Goals as goal

pub returns : goal.returns
returns c = by_one _ _ _ (search rules)
