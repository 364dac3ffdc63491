-- What the code's answer says: the documents' number, and the share buffer at exit.
-- Assumes nothing.
use Rattle.std.specs.Prelude.{ℕ, List, Result, Ok, Err}
use Rattle.refusals.specs.Refusals.{number}
use Rattle.refusals.specs.declared.Refusal.{Refusal}
use Rattle.dealing.specs.Dealing as definitions

abbrev pub answer_of : Result Unit Refusal → List ℕ → definitions.Dealt
answer_of (Ok _) buffer = record { number = 0; shares = buffer }
answer_of (Err refusal) buffer = record { number = number refusal; shares = buffer }
