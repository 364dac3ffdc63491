-- `parity::weight`: the array is the list of all weights, and each stands at its place in it.
-- Assumes nothing.
use Rattle.std.proofs.Common.{arith}
use Rattle.lists.specs.Tabulate.{tab, concat}
use Rattle.field.specs.Field.{power, inverse, product}
use Rattle.members.specs.Members.{size}
use Rattle.parity.specs.Parity.{factorial, sign, weight, weights}
use Rattle.parity.proofs.Table.{place_inside, at_place}
use Rattle.parity.proofs.weight.Goals as goal

pub overflow_add-result : goal.overflow_add-result
overflow_add-result c = omega (arith, place_inside _ _ c.requires.0 c.requires.1 c.requires.2)

pub offset_bounds-t : goal.offset_bounds-t
offset_bounds-t c = omega (arith, place_inside _ _ c.requires.0 c.requires.1 c.requires.2)

pub bounds-t : goal.bounds-t
bounds-t c = place_inside _ _ c.requires.0 c.requires.1 c.requires.2

pub returns : goal.returns
unfolding weights tab concat size weight factorial sign product inverse power
returns c = at_place _ _ c.requires.0 c.requires.1 c.requires.2
