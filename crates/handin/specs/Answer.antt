-- What the reader's answer and the writer's stand for, case by case.
-- Assumes nothing.
use Rattle.std.specs.Prelude.{ℕ, List, Result, Ok, Err}
use Rattle.refusals.specs.declared.Refusal.{Refusal}
use Rattle.refusals.specs.Refusals.{number}
use Rattle.handin.specs.Reader.{HandIn}
use Rattle.handin.specs.Writer.{HandInText}
use Rattle.handin.specs.declared.HandIn as given

-- document 01's number and values for each answer, with the buffer at exit
unfoldable pub answer_of : Result given.HandIn Refusal → List ℕ → HandIn
answer_of (Ok r) words =
    record { number = 0; t = r.t; d = r.d; quorum = r.quorum; day = r.day; present = r.present; words = words }
answer_of (Err refusal) words = record { number = number refusal; t = 0; d = 0; quorum = 0; day = 0; present = 0; words = words }

-- document 02's number and length for each answer, with the buffer at exit
unfoldable pub written_of : Result ℕ Refusal → List ℕ → HandInText
written_of (Ok count) buffer = record { number = 0; count = count; buffer = buffer }
written_of (Err refusal) buffer = record { number = number refusal; count = 0; buffer = buffer }
