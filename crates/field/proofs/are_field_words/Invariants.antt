-- `field::are_field_words`: what is left decides.
-- Assumes nothing.
use Rattle.std.proofs.Common.{◌≡◌, length}
use Rattle.lists.specs.Tabulate.{each}
use Rattle.field.specs.Field.{is_field_word}
use Rattle.field.proofs.are_field_words.Given as goal

abbrev pub invariant-loop-rest : goal.invariant-loop-rest
invariant-loop-rest l = each is_field_word l.words ≡ each is_field_word l.rest

abbrev pub decreases-loop-rest : goal.decreases-loop-rest
decreases-loop-rest l = length l.rest
