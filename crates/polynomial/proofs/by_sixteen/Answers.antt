-- `polynomial::by_sixteen`: the upper eight are put before the others unreduced, and the lower eight before those.
-- Assumes nothing.
use Rattle.std.proofs.Common.{refl}
use Rattle.polynomial.proofs.Powers.{sixteen_made}
use Rattle.polynomial.proofs.by_sixteen.Goals as goal

pub returns : goal.returns
returns c = sixteen_made _ _ _ _ _ _ c.told-block c.add_eight-upper.ensures.0 c.add_eight.ensures.0 refl
