-- The examples and corners, by computing.
-- Assumes nothing.
use Rattle.lists.specs.Tabulate.{tab}
use Rattle.field.specs.Field.{sum, difference, product, power, inverse, small_inverses}
use Rattle.field.specs.Examples.{Examples}

pub examples : Examples
unfolding sum difference product inverse power small_inverses tab
examples = search
