-- The lines of the n below 2t + 1 are written.
-- Assumes nothing.
use Rattle.std.proofs.Common.{◌≡◌, suc, ◌-◌}
use Rattle.members.specs.Members.{size}
use Rattle.text.proofs.Pieces.{Pieces}
use Rattle.weights.specs.WeightTable.{member_lines}
use Rattle.weights.proofs.fill_table.Given as goal

abbrev pub invariant-loop-t : goal.invariant-loop-t
invariant-loop-t l =
    record {
      same_reference : l.output.bytes.ghost_name ≡ l.initial.output.bytes.ghost_name;
      lines : Pieces 15 (λ k. member_lines (size (suc k))) l.initial.output.bytes.now 0 l.output.bytes.now l.output.end (l.t - 1);
    }
