-- The lines of the first i members are written.
-- Assumes nothing.
use Rattle.std.proofs.Common.{◌≡◌}
use Rattle.members.specs.Members.{size}
use Rattle.text.proofs.Pieces.{Pieces}
use Rattle.weights.specs.WeightTable.{weight_line}
use Rattle.weights.proofs.put_member_lines.Given as goal

abbrev pub invariant-loop-i : goal.invariant-loop-i
invariant-loop-i l =
    record {
      same_reference : l.output.bytes.ghost_name ≡ l.initial.output.bytes.ghost_name;
      lines : Pieces (size l.t) (weight_line (size l.t)) l.initial.output.bytes.now l.initial.output.end l.output.bytes.now l.output.end l.i;
    }
