-- The bytes passed are digits, and stand for the value.
-- Assumes nothing.
use Rattle.text.proofs.Numerals.{Valued}
use Rattle.text.proofs.digits_value.Given as goal

abbrev pub invariant-loop-b : goal.invariant-loop-b
invariant-loop-b l = Valued l.field l.b-index l.value
