-- What the answers of the code stand for.
-- Assumes nothing.
use Rattle.std.specs.Prelude.{ℕ, List, Result, Ok, Err}
use Rattle.refusals.specs.declared.Refusal.{Refusal}
use Rattle.refusals.specs.Refusals.{number}
use Rattle.decoding.specs.Decoding.{Decoded, found}

-- document 01's number, 0 where a polynomial is found, with the coefficient buffer at exit
abbrev pub answer_of : Result (Unit {0}) Refusal → List ℕ → Decoded
answer_of (Ok _) buffer = found buffer
answer_of (Err refusal) buffer = record { number = number refusal; coefficients = buffer }
