-- The lines of the first i members are counted.
-- Assumes nothing.
use Rattle.std.proofs.Common.{◌≡◌, length}
use Rattle.handin.specs.Writer.{share_lines}
use Rattle.handin.proofs.Source.shares_length.Given as goal

abbrev pub invariant-loop-i : goal.invariant-loop-i
invariant-loop-i l = l.count ≡ length (share_lines l.self.shares.shape.t l.self.shares.shape.d l.self.present l.self.shares.words.now l.i)
