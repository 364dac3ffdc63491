-- The examples and corners, by computing.
-- Assumes nothing.
use Rattle.polynomial.specs.Polynomial.{eval}
use Rattle.mac.specs.Tag.{tag}
use Rattle.mac.specs.Examples.{Examples}

pub examples : Examples
unfolding tag eval
examples = search
