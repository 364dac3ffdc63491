-- The corners, by computing.
-- Assumes nothing.
use Rattle.lists.specs.Tabulate.{tab, all, count, keep, first, choose}
use Rattle.field.specs.Field.{difference, product, power, inverse}
use Rattle.polynomial.specs.Polynomial.{eval, value, linear, slopes, interpolate}
use Rattle.members.specs.Members.{size, own_points, bit, has, set_of, card, members_of}
use Rattle.decoding.specs.Decoding.{surplus, need, agreeing, through, find, undecoded, decoded_from, decode}
use Rattle.decoding.specs.Examples.{Examples}

pub examples : Examples
unfolding tab all count keep first choose difference product power inverse eval value linear slopes interpolate size
    own_points bit has set_of card members_of surplus need agreeing through find undecoded decoded_from decode
examples = search
