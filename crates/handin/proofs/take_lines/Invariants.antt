-- The lines left, after the shares taken, come to what all lines do.
-- Assumes nothing.
use Rattle.std.proofs.Common.{[], length}
use Rattle.text.specs.Lines.{parts}
use Rattle.handin.specs.Reader.{take_lines}
use Rattle.handin.proofs.Reaching.{Reached}
use Rattle.handin.proofs.take_lines.Given as goal

abbrev pub invariant-loop-rest : goal.invariant-loop-rest
invariant-loop-rest l = Reached l.s.t l.s.d (take_lines l.s.t l.s.d [] (parts 10 l.text)) l.rest l.present l.words

abbrev pub decreases-loop-rest : goal.decreases-loop-rest
decreases-loop-rest l = length l.rest
