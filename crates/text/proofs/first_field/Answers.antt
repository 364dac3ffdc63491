-- The first field is the first part, and the fields left are the other parts.
-- Assumes nothing.
use Rattle.text.specs.Internal.Scanning.{fields_left}
use Rattle.text.proofs.first_field.Goals as goal

pub returns-in-Some : goal.returns-in-Some
unfolding fields_left
returns-in-Some c = c.in-Some.ensures.parts

pub returns-in-None : goal.returns-in-None
unfolding fields_left
returns-in-None c = c.in-None.ensures.parts
