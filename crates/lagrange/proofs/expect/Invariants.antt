-- `lagrange::expect`: the words below x are the sums of products with the rows there.
-- Assumes nothing.
use Rattle.std.proofs.Common.{◌≡◌, take}
use Rattle.lists.specs.Tabulate.{tab}
use Rattle.lagrange.specs.Internal.Matrix.{products}
use Rattle.lagrange.proofs.expect.Given as goal

abbrev pub invariant-loop-x : goal.invariant-loop-x
invariant-loop-x l = take l.x l.expected ≡ tab l.x (products l.rows l.words)
