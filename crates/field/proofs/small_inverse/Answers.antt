-- `field::small_inverse`: the table's rule, computed once over all 30 entries.
-- Assumes nothing.
use Rattle.lists.specs.Tabulate.{tab}
use Rattle.field.specs.Field.{power, inverse, small_inverses}
use Rattle.field.proofs.Table.{entry}
use Rattle.field.proofs.small_inverse.Goals as goal

pub returns : goal.returns
unfolding small_inverses tab inverse power
returns c = search entry
