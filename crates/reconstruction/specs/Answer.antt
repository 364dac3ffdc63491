-- What the answers of the code stand for.
-- Assumes nothing.
use Rattle.std.specs.Prelude.{ℕ, List, Result, Ok, Err}
use Rattle.refusals.specs.Refusals.{number}
use Rattle.reconstruction.specs.declared.Opened.{Opened as OpenedSets}
use Rattle.reconstruction.specs.declared.Unopened.{Unopened}
use Rattle.reconstruction.specs.declared.Reconstructed.{Reconstructed}
use Rattle.voting.specs.Answer.{pairs_of}
use Rattle.reconstruction.specs.Reconstruction.{Opened, Answered}

-- the documents' number, and document 01's masks, with the secret buffer at exit; only 16 is refused with survivors
abbrev pub answer_of : Result OpenedSets Unopened → List ℕ → Opened
answer_of (Ok sets) words = record { number = 0; survivors = sets.survivors; agreeing = sets.agreeing; secret = words }
answer_of (Err why) words = record { number = number why.refusal; survivors = why.survivors; agreeing = 0; secret = words }

-- with document 02's counts
abbrev pub answered_of : Reconstructed → List ℕ → Answered
answered_of r words = record { opened = answer_of r.outcome words; pairs = pairs_of r.pairs }
