-- `lagrange::differences`: what the closure computes is the difference.
-- Assumes nothing.
use Rattle.std.proofs.Common.{rules}
use Rattle.field.specs.Field.{difference}
use Rattle.lagrange.proofs.differences.Goals as goal

pub returns : goal.returns
returns c = c.over.ensures (difference c.args.x) (λ a b h called. search rules)
