-- The examples, by computing.
-- Assumes nothing.
use mathlib.Core.Path.{refl}
use Rattle.lists.specs.Tabulate.{tab, all, sum_to, concat}
use Rattle.field.specs.Field.{product, power, inverse}
use Rattle.members.specs.Members.{size}
use Rattle.parity.specs.Parity.{factorial, sign, weight, weights, parity, balanced}
use Rattle.parity.specs.Internal.Looking.{leading, zero_scale, zero_weight, constant, looked, with_values}
use Rattle.parity.specs.Examples.{Examples}

pub examples : Examples
unfolding tab all sum_to concat product power inverse size factorial sign weight weights parity balanced leading zero_scale zero_weight constant looked with_values
examples =
    record {
      of_three = refl;
      of_five = refl;
      many = refl;
      last_two = refl;
      first_place = refl;
      next_place = refl;
      last_place = refl;
      even = refl;
      odd = refl;
      line_passes = refl;
      altered_fails = refl;
      squares_pass = refl;
      cubes_first = refl;
      cubes_last = refl;
      cubes_fail = refl;
      of_p = refl;
      line_at_0 = refl;
      squares_at_0 = refl;
      all_pass = refl;
      second_fails = refl;
      first_fails = refl;
      stored = refl;
    }
