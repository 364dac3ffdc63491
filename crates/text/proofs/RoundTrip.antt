-- A line that is printed reads back as what was printed: its bytes 9 and 10 stand only between its fields and at its end, and its numerals stand for its numbers.
-- Assumes nothing.
use mathlib.Core.Path.{◌≡◌, refl, ap, ◌∙◌}
use mathlib.Core.Logic.{◌⊎◌, inl, inr}
use mathlib.Core.Bool.{Bool, true, false, not}
use mathlib.Core.Option.{some}
use mathlib.Core.List.{List, [], ◌∷◌, ◌++◌, map, append_assoc, append-nil}
use Prim.Native.Nat.{ℕ, zero, suc, ◌+◌, ◌/◌, ◌%◌, ◌^◌, ◌≤◌, ◌<◌}
use native.Mathlib.Nat.{not-suc-le-zero}
use native.Mathlib.Omega.{arith}
use borrow.Author.Tests.{ltb-true, ltb-false, le-leb, eq-eqb, ne_eqb}
use lib.Dec.{ltb, eqb}
use lib.ListN.{length, get_or, length-map}
use Rattle.lists.specs.Tabulate.{each, concat}
use Rattle.lists.specs.Checks.{within}
use Rattle.lists.proofs.Bools.{test, and_intro, and_no}
use Rattle.lists.proofs.Checks.{within_intro}
use Rattle.lists.proofs.Every.{Every, none, more}
use Rattle.lists.proofs.StoredBlocks.{each_append}
use Rattle.text.specs.Lines.{is_digit, digits, decimal, leads_with_zero, is_numeral, field, parts, numerals, line, is_letter, numbers_of, line_of}
use Rattle.text.proofs.Digits.{single, several, tenth, has_digit, digits_most}
use Rattle.text.proofs.FieldLaws.{joined, numerals_good}
use Rattle.text.proofs.Numerals.{decimal_last}
use Rattle.text.proofs.Parts.{free, parts_last, parts_next}

-- ---- the bytes of a numeral

-- what holds of each of the ten digits holds of every byte
digits-each : (p : ℕ → Bool) → ((d : ℕ) → d < 10 → p (48 + d) ≡ true) → (f n : ℕ) → each p (digits f n) ≡ true
unfolding digits each
digits-each p h zero n = refl
digits-each p h (suc f) n = at (test (ltb n 10)) (digits-each p h f (n / 10))
  where
    at : (ltb n 10 ≡ true) ⊎ (ltb n 10 ≡ false) → each p (digits f (n / 10)) ≡ true → each p (digits (suc f) n) ≡ true
    at (inl e) b = rw (single f n (ltb-true n 10 e)) (and_intro (h n (ltb-true n 10 e)) refl)
    at (inr e) b = rw (several f n (ltb-false n 10 e), each_append) (and_intro b (and_intro (h (n % 10) (omega arith)) refl))

digits-digits : (f n : ℕ) → each is_digit (digits f n) ≡ true
digits-digits f n = digits-each is_digit (λ d h. within_intro 48 57 (48 + d) (omega arith) (omega arith)) f n

-- no byte below the digits is among them, a tab or a line end
digits-free : (sep f n : ℕ) → sep < 48 → free sep (digits f n) ≡ true
unfolding free
digits-free sep f n low =
    digits-each (λ b. not (eqb b sep)) (λ d h. ap not (ne_eqb (48 + d) sep (λ e. omega (arith, e, low)))) f n

-- ---- the number of a numeral

decimal_single : (f n : ℕ) → n < 10 → decimal 0 (digits (suc f) n) ≡ n
unfolding decimal
decimal_single f n h = ap (decimal 0) (single f n h) ∙ omega arith

-- a numeral stands for the number that was printed
decimal-back : (k n : ℕ) → n < 10 ^ suc k → decimal 0 (digits (suc k) n) ≡ n
decimal-back zero n h = decimal_single 0 n h
decimal-back (suc k) n h = at (test (ltb n 10)) (decimal-back k (n / 10) (tenth (suc k) n h))
  where
    at : (ltb n 10 ≡ true) ⊎ (ltb n 10 ≡ false) → decimal 0 (digits (suc k) (n / 10)) ≡ n / 10 → decimal 0 (digits (suc (suc k)) n) ≡ n
    at (inl e) b = decimal_single (suc k) n (ltb-true n 10 e)
    at (inr e) b =
        ap (decimal 0) (several (suc k) n (ltb-false n 10 e))
        ∙ decimal_last 0 (digits (suc k) (n / 10)) (48 + n % 10)
        ∙ omega (arith, b)

-- ---- no leading zero

first_kept : (xs ys : List ℕ) → 48 < get_or xs 0 0 → 48 < get_or (xs ++ ys) 0 0
first_kept [] ys h = absurd (not-suc-le-zero h)
first_kept (x ∷ xs) ys h = h

first_single : (f n : ℕ) → n < 10 → 1 ≤ n → 48 < get_or (digits (suc f) n) 0 0
first_single f n h low = rw (single f n h) (omega arith)

-- the first digit of a number from 1 on
first_digit : (k n : ℕ) → n < 10 ^ suc k → 1 ≤ n → 48 < get_or (digits (suc k) n) 0 0
first_digit zero n h low = first_single 0 n h low
first_digit (suc k) n h low = elim (test (ltb n 10)) [
  | inl e ↦ first_single (suc k) n (ltb-true n 10 e) low
  | inr e ↦
      let ten : 10 ≤ n = ltb-false n 10 e in
      rw (several (suc k) n ten) (first_kept (digits (suc k) (n / 10)) ((48 + n % 10) ∷ []) (first_digit k (n / 10) (tenth (suc k) n h) (omega arith)))
]

no_zero : (k n : ℕ) → n < 10 ^ suc k → leads_with_zero (digits (suc k) n) ≡ false
unfolding leads_with_zero
no_zero k n h = elim (test (ltb n 10)) [
  | inl e ↦ rw (single k n (ltb-true n 10 e))
  | inr e ↦
      let ten : 10 ≤ n = ltb-false n 10 e in
      let f : 48 < get_or (digits (suc k) n) 0 0 = first_digit k n h (omega arith) in
      let other : eqb (get_or (digits (suc k) n) 0 0) 48 ≡ false = ne_eqb (get_or (digits (suc k) n) 0 0) 48 (λ q. omega (arith, q, f)) in
      and_no (ltb 1 (length (digits (suc k) n))) (eqb (get_or (digits (suc k) n) 0 0) 48) other
]

-- ---- numerals

-- a number below 65536 is printed as a numeral that stands for it
module _ (n : ℕ) (h : n < 65536) where
  number_back : decimal 0 (digits 10 n) ≡ n
  number_back = let fits : n < 10 ^ 10 = omega arith in decimal-back 9 n fits

  numeral_back : is_numeral (digits 10 n) ≡ true
  unfolding is_numeral
  numeral_back =
      let fits : n < 10 ^ 10 = omega arith in
      let five : n < 10 ^ 5 = omega arith in
      let small : decimal 0 (digits 10 n) ≤ 65535 = omega (arith, number_back) in
      let long : within 1 5 (length (digits 10 n)) ≡ true =
      within_intro 1 5 (length (digits 10 n)) (has_digit n (omega arith)) (digits_most 4 10 n five) in
      let front : not (leads_with_zero (digits 10 n)) ≡ true = ap not (no_zero 9 n fits) in
      and_intro (and_intro (and_intro long (digits-digits 10 n)) front) (le-leb (decimal 0 (digits 10 n)) 65535 small)

numerals-back : {ns : List ℕ} → Every (λ n. n < 65536) ns → numerals (map (digits 10) ns) ≡ some ns
unfolding numerals joined
numerals-back none = refl
numerals-back {ns = n ∷ ns} (more h e) =
    numerals_good (digits 10 n) (map (digits 10) ns) (numeral_back n h) ∙ rw (number_back n h, numerals-back e)

-- ---- fields

-- no byte of printed fields ends the line
fields_free : (ns : List ℕ) → free 10 (concat (map field ns)) ≡ true
unfolding free each concat field
fields_free [] = refl
fields_free (n ∷ ns) = rw each_append (and_intro (digits-free 10 10 n (omega arith)) (fields_free ns))

-- printed fields after bytes without a tab are the parts after these
fields_back : (xs ns : List ℕ) → free 9 xs ≡ true → parts 9 (xs ++ concat (map field ns)) ≡ xs ∷ map (digits 10) ns
unfolding concat field
fields_back xs [] h = ap (parts 9) (append-nil xs) ∙ parts_last 9 xs h
fields_back xs (n ∷ ns) h =
    parts_next 9 xs (digits 10 n ++ concat (map field ns)) h
    ∙ ap (λ (l : List (List ℕ)). xs ∷ l) (fields_back (digits 10 n) ns (digits-free 9 10 n (omega arith)))

-- ---- lines

-- a line without its byte 10
abbrev pub body : ℕ → List ℕ → List ℕ
body letter ns = letter ∷ concat (map field ns)

-- the lines of a text that begins with a printed line: that line's body, and the lines of the rest
pub line_first : (letter : ℕ) (ns rest : List ℕ) → (letter ≡ 10 → ⊥) → parts 10 (line (letter ∷ []) ns ++ rest) ≡ body letter ns ∷ parts 10 rest
unfolding line free each
line_first letter ns rest h =
    ap (parts 10) (append_assoc (body letter ns) (10 ∷ []) rest)
    ∙ parts_next 10 (body letter ns) rest (and_intro (ap not (ne_eqb letter 10 h)) (fields_free ns))

-- and the body reads as its numbers
pub line-back : (letter : ℕ) (ns : List ℕ) → (letter ≡ 9 → ⊥) → Every (λ n. n < 65536) ns → line_of letter (length ns) (body letter ns) ≡ some ns
unfolding line_of numbers_of is_letter free each
line-back letter ns h e =
    ap (numbers_of letter (length ns)) (fields_back (letter ∷ []) ns (and_intro (ap not (ne_eqb letter 9 h)) refl))
    ∙ rw (eq-eqb letter letter refl, length-map ns (digits 10), eq-eqb (length ns) (length ns) refl) (numerals-back e)
