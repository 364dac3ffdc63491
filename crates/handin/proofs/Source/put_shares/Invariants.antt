-- The lines of the first i members are written.
-- Assumes nothing.
use Rattle.std.proofs.Common.{◌≡◌}
use Rattle.text.proofs.Pieces.{Pieces}
use Rattle.handin.proofs.Writing.{member_line}
use Rattle.handin.proofs.Source.put_shares.Given as goal

abbrev pub invariant-loop-i : goal.invariant-loop-i
invariant-loop-i l =
    let s = l.self.shares in
    record {
      same_reference : l.output.bytes.ghost_name ≡ l.initial.output.bytes.ghost_name;
      pieces : Pieces s.shape.n (member_line s.shape.t s.shape.d l.self.present s.words.now) l.initial.output.bytes.now l.initial.output.end l.output.bytes.now l.output.end l.i;
    }
