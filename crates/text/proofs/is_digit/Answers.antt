-- The kind says it.
-- Assumes nothing.
use Rattle.text.specs.declared.Kind.TheVariants.{Digit, Tab, End, Letter, Other}
use Rattle.text.proofs.Bytes.{digit_told}
use Rattle.text.proofs.is_digit.Goals as goal

pub returns-in-Digit : goal.returns-in-Digit
returns-in-Digit c = search (digit_told Digit)

pub returns-in-Tab : goal.returns-in-Tab
returns-in-Tab c = search (digit_told Tab)

pub returns-in-End : goal.returns-in-End
returns-in-End c = search (digit_told End)

pub returns-in-Letter : goal.returns-in-Letter
returns-in-Letter c = search (digit_told Letter)

pub returns-in-Other : goal.returns-in-Other
returns-in-Other c = search (digit_told Other)
