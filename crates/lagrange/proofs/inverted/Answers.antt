-- `lagrange::inverted`: what the closure computes is the inverse of the difference.
-- Assumes nothing.
use Rattle.std.proofs.Common.{rules}
use Rattle.field.specs.Field.{difference, inverse}
use Rattle.lagrange.specs.Internal.Lagrange.{inverted}
use Rattle.lagrange.proofs.inverted.Goals as goal

pub returns : goal.returns
unfolding inverted
returns c = c.over.ensures (λ a. inverse (difference c.args.x a)) (λ a b h called. search rules)
