-- Numerals, fields and lines of text (document 01, 'Hand-in text and the program'), as they are printed and as they are read. A byte is a number.
-- Assumes nothing.
use Rattle.std.specs.Prelude.{ℕ, zero, suc, ◌+◌, ◌-◌, ◌*◌, ◌/◌, ◌%◌, Bool, true, false, cond, ◌&&◌, not, List, [], ◌∷◌, ◌++◌, map, leb, ltb, eqb, length, get_or}
use Rattle.std.proofs.Math.Option.{Option, none, some}
use Rattle.lists.specs.Tabulate.{each, concat}
use Rattle.lists.specs.Checks.{within}

-- a digit, 0 to 9
abbrev pub is_digit : ℕ → Bool
is_digit b = within 48 57 b

-- a numeral, printed: the decimal digits of a number that has at most f of them
unfoldable pub digits : ℕ → ℕ → List ℕ
digits zero n = []
digits (suc f) n = elim (ltb n 10) [ true ↦ (48 + n) ∷ [] | false ↦ digits f (n / 10) ++ ((48 + n % 10) ∷ []) ]

-- and read: the number that digits stand for, after digits that stand for `high`
unfoldable pub decimal : ℕ → List ℕ → ℕ
decimal high [] = high
decimal high (b ∷ bs) = decimal (10 * high + (b - 48)) bs

-- a leading zero, other than `0` itself
unfoldable pub leads_with_zero : List ℕ → Bool
leads_with_zero field = ltb 1 (length field) && eqb (get_or field 0 0) 48

-- what is read as a numeral: 1 to 5 digits, no leading zero, at most 65535
unfoldable pub is_numeral : List ℕ → Bool
is_numeral field =
    within 1 5 (length field) && each is_digit field && not (leads_with_zero field) && leb (decimal 0 field) 65535

-- a field, printed: a tab and a number below 2 to the power 32
unfoldable pub field : ℕ → List ℕ
field n = 9 ∷ digits 10 n

-- a byte before parts that are split already: a separator begins a new part, any other byte belongs to the first
unfoldable pub before : Bool → ℕ → List (List ℕ) → List (List ℕ)
before true b ps = [] ∷ ps
before false b [] = (b ∷ []) ∷ []
before false b (p ∷ ps) = (b ∷ p) ∷ ps

-- the parts between the separators, one more than there are separators: lines between bytes 10, fields between bytes 9
unfoldable pub parts : ℕ → List ℕ → List (List ℕ)
parts separator [] = [] ∷ []
parts separator (b ∷ bs) = before (eqb b separator) b (parts separator bs)

-- fields, read: the numbers of fields that are all numerals
unfoldable pub numerals : List (List ℕ) → Option (List ℕ)
numerals [] = some []
numerals (f ∷ fs) = with_numeral (is_numeral f) (decimal 0 f) (numerals fs)
  where
    with_numeral : Bool → ℕ → Option (List ℕ) → Option (List ℕ)
    with_numeral false n ns = none
    with_numeral true n none = none
    with_numeral true n (some ns) = some (n ∷ ns)

-- a line, printed: a word, a field for each number, and the byte 10
unfoldable pub line : List ℕ → List ℕ → List ℕ
line word ns = word ++ concat (map field ns) ++ 10 ∷ []

-- the field is this one letter
unfoldable pub is_letter : ℕ → List ℕ → Bool
is_letter letter field = eqb (length field) 1 && eqb (get_or field 0 0) letter

unfoldable pub numbers_of : ℕ → ℕ → List (List ℕ) → Option (List ℕ)
numbers_of letter k [] = none
numbers_of letter k (head ∷ fields) = cond (is_letter letter head && eqb (length fields) k) (numerals fields) none

-- and read, without its byte 10: the k numbers of a line that is the letter and then exactly k numerals
unfoldable pub line_of : ℕ → ℕ → List ℕ → Option (List ℕ)
line_of letter k line = numbers_of letter k (parts 9 line)
