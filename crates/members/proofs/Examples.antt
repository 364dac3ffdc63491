-- The corners, by computing.
-- Assumes nothing.
use Rattle.lists.specs.Tabulate.{tab, count, keep}
use Rattle.members.specs.Members.{size, own_points, bit, has, set_of, card, members_of, adding, striking, first_of, common}
use Rattle.members.specs.Examples.{Examples}

pub examples : Examples
unfolding tab count keep size own_points bit has set_of card members_of adding striking first_of common
examples = search
