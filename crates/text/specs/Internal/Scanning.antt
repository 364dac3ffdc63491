-- A text and a line taken from the front, as the code takes them.
-- Assumes nothing.
use Rattle.std.specs.Prelude.{ℕ, cond, List, [], Option, Some, None}
use Rattle.text.specs.Lines.{parts, decimal, is_numeral}

-- what a field stands for
unfoldable pub numeral_of : List ℕ → Option ℕ
numeral_of field = cond (is_numeral field) (Some (decimal 0 field)) None

-- the fields that are left: those of the bytes after a tab, or none
unfoldable pub fields_left : Option (List ℕ) → List (List ℕ)
fields_left None = []
fields_left (Some rest) = parts 9 rest
