-- The digits of the rest are left to store, before those stored already.
-- Assumes nothing.
use Rattle.text.proofs.Digits.{Storing}
use Rattle.text.proofs.Output.put_digits.Given as goal

abbrev pub invariant-loop-i : goal.invariant-loop-i
invariant-loop-i l = Storing l.n l.at l.initial.bytes l.bytes l.i l.rest
