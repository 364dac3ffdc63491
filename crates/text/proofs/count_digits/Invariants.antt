-- `text::count_digits`: the powers so far that the number reaches are counted.
-- Assumes nothing.
use Rattle.text.proofs.Digits.{Counted}
use Rattle.text.proofs.count_digits.Given as goal

abbrev pub invariant-loop-power : goal.invariant-loop-power
invariant-loop-power l = Counted l.n l.power-index l.count
