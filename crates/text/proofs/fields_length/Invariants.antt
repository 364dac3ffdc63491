-- The fields of the numbers passed are counted, and each has at most 11 bytes.
-- Assumes nothing.
use Rattle.std.proofs.Common.{◌≡◌, ◌*◌, ◌≤◌, length}
use Rattle.lists.specs.Tabulate.{tab, concat}
use Rattle.text.proofs.FieldLists.{field_at}
use Rattle.text.proofs.fields_length.Given as goal

abbrev pub invariant-loop-n : goal.invariant-loop-n
invariant-loop-n l = record { so_far : l.count ≡ length (concat (tab l.n-index (field_at l.numbers))); few : l.count ≤ 11 * l.n-index }
