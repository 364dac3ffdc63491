-- The corners, by computing.
-- Assumes nothing.
use Rattle.field.specs.Field.{difference, product, power, inverse}
use Rattle.polynomial.specs.Polynomial.{eval, value, linear, slopes, interpolate}
use Rattle.polynomial.specs.Examples.{Examples}

pub examples : Examples
unfolding eval value linear slopes interpolate difference product power inverse
examples = search
