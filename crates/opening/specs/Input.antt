-- What reading the input answers, and what is printed then.
-- Assumes nothing.
use Rattle.std.specs.Prelude.{ℕ, ◌≡◌, ◌≤◌, min, List, length, take, ⊤, Option, IfSome, Result, Ok, Err}
use Rattle.std.specs.Io.KnownBytes.{Keeps, Appends}
use Rattle.report.specs.Report.{report}
use Rattle.std.specs.declared.io.Error.{Error}
use Rattle.opening.specs.declared.Failure.{Failure}
use Rattle.opening.specs.declared.Failure.TheVariants.{Reading, Writing}

-- what the answer of a read says, of a buffer with room bytes: it failed, or it counts the bytes read, and at 0 the input has ended
abbrev pub step_of : Result ℕ Error → ℕ → Result ℕ Error
step_of (Err error) room = Err error
step_of (Ok count) room = Ok (min count room)

-- the bytes that were read are in the buffer, which has len of them
abbrev pub Inside : Result ℕ Error → ℕ → Type 0
Inside (Ok n) len = n ≤ len
Inside (Err error) len = Unit {0}

-- where it is known what a reader gives, the bytes that were read are that, or as much of its front as the buffer takes
abbrev pub IsFrom : Option (List ℕ) → Result ℕ Error → List ℕ → Type 0
IsFrom known (Ok n) text = IfSome known (λ given. take n text ≡ take (length text) given)
IsFrom known (Err error) text = ⊤

-- where it is known what the reader gives, the report of all of that is written, and nothing else
abbrev pub Answers : Result Unit Failure → Option (List ℕ) → Option (List ℕ) → Option (List ℕ) → Type 0
Answers (Ok u) known before after = IfSome known (λ given. Appends before after (report given))
Answers (Err failure) known before after = ⊤

-- after a failed read nothing is written
abbrev pub IsQuiet : Result Unit Failure → Option (List ℕ) → Option (List ℕ) → Type 0
IsQuiet (Ok u) before after = ⊤
IsQuiet (Err (Reading error)) before after = Keeps before after
IsQuiet (Err (Writing error)) before after = ⊤
