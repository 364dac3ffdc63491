-- The numbers stored, and those of the fields left, are the line's.
-- Assumes nothing.
use Rattle.std.specs.Option.{option_copied}
use Rattle.text.specs.Lines.{line_of}
use Rattle.std.proofs.Common.{length}
use Rattle.text.specs.Internal.Scanning.{fields_left}
use Rattle.text.proofs.FieldLaws.{Stored}
use Rattle.text.proofs.numbers.Given as goal

abbrev pub invariant-loop-number : goal.invariant-loop-number
invariant-loop-number l = Stored (line_of l.letter (length l.initial.out) l.line) (length l.initial.out) l.number-index l.out (fields_left (option_copied l.rest))
