-- The example and corners, by computing.
-- Assumes nothing.
use mathlib.Core.Path.{refl}
use Rattle.lists.specs.Ascii.{ascii}
use Rattle.lists.specs.Tabulate.{tab, concat}
use Rattle.field.specs.Field.{product, power, inverse}
use Rattle.members.specs.Members.{size}
use Rattle.parity.specs.Parity.{factorial, sign, weight}
use Rattle.text.specs.Lines.{digits, field, line}
use Rattle.weights.specs.WeightTable.{weight_line, member_lines, table}
use Rattle.weights.specs.Examples.{Examples}

pub examples : Examples
unfolding ascii tab concat product power inverse size factorial sign weight digits field line weight_line member_lines table
examples = record { first_line_holds = refl; of_three = refl; long = refl; from_three_to_five = refl; last_line = refl }
