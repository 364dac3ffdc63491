-- The fields of the numbers passed are written.
-- Assumes nothing.
use Rattle.std.proofs.Common.{◌≡◌, length}
use Rattle.text.proofs.FieldLists.{field_at}
use Rattle.text.proofs.Pieces.{Pieces}
use Rattle.text.proofs.Output.put_fields.Given as goal

abbrev pub invariant-loop-n : goal.invariant-loop-n
invariant-loop-n l =
    record {
      same_reference : l.self.bytes.ghost_name ≡ l.initial.self.bytes.ghost_name;
      pieces : Pieces (length l.numbers) (field_at l.numbers) l.initial.self.bytes.now l.initial.self.end l.self.bytes.now l.self.end l.n-index;
    }
