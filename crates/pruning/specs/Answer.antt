-- What the answers of the code stand for.
-- Assumes nothing.
use Rattle.std.specs.Prelude.{ℕ, Result, Ok, Err}
use Rattle.refusals.specs.declared.Refusal.{Refusal}
use Rattle.refusals.specs.Refusals.{number}
use Rattle.pruning.specs.Pruning.{Pruned}

-- document 01's number and survivors: survivors that are left have the number 0, and a refusal leaves none
abbrev pub answer_of : Result ℕ Refusal → Pruned
answer_of (Ok set) = record { number = 0; survivors = set }
answer_of (Err refusal) = record { number = number refusal; survivors = 0 }
