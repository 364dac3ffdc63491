-- Every word passed is a field word, if the flag says so.
-- Assumes nothing.
use Rattle.std.proofs.Common.{◌≡◌, take}
use Rattle.lists.specs.Tabulate.{each}
use Rattle.field.specs.Field.{is_field_word}
use Rattle.field.proofs.test_all.Given as goal

abbrev pub invariant-loop-word : goal.invariant-loop-word
invariant-loop-word l = l.all ≡ each is_field_word (take l.word-index l.words)
