-- What is printed of a secret, and of the answer for a text.
-- Assumes nothing.
use Rattle.std.specs.Prelude.{ℕ, List, [], ◌∷◌, ◌++◌, Result, Ok, Err, length, take}
use Rattle.lists.specs.Ascii.{ascii}
use Rattle.lists.specs.Tabulate.{tab, concat}
use Rattle.refusals.specs.Refusals.{number}
use Rattle.text.specs.Lines.{line}
use Rattle.reconstruction.specs.declared.Unopened.{Unopened}
use Rattle.report.specs.declared.Answer.{Answer}
use Rattle.report.specs.Report.{word_line}

-- a line for each word of a secret
unfoldable pub word_lines : List ℕ → List ℕ
word_lines secret = concat (tab (length secret) (word_line secret))

-- the lines of an answer, with the secret at the front of its buffer
unfoldable pub answer_lines : Result Answer Unopened → List ℕ → List ℕ
answer_lines (Ok a) buffer = line (ascii "OPEN") (a.opened.survivors ∷ a.opened.agreeing ∷ []) ++ word_lines (take a.shape.d buffer)
answer_lines (Err why) buffer = line (ascii "REFUSED") (number why.refusal ∷ why.survivors ∷ [])
