-- `lagrange::Matrix::expect`: the sums of products with the rows are values of the polynomial through the words.
-- Assumes nothing.
use Rattle.lagrange.proofs.Rows.{read_off}
use Rattle.lagrange.proofs.Matrix.expect.Goals as goal

pub returns-clause-values : goal.returns-clause-values
returns-clause-values c = λ same long. read_off _ _ _ _ _ _ c.args.self.now.readable same long c.expect.ensures
