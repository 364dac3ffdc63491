-- Numerals, fields and lines at their corners. Proved in proofs/Examples.antt.
use Rattle.std.specs.Prelude.{ℕ, ◌-◌, ◌^◌, ◌≡◌, true, false, List, [], ◌∷◌}
use Prim.Native.String.{String}
use Rattle.std.proofs.Math.Option.{Option, none, some}
use Rattle.lists.specs.Ascii.{ascii}
use Rattle.text.specs.Lines.{digits, is_numeral, line, parts, line_of}

-- what a D line reads, without its byte 10
abbrev pub reads_d : String → Option (List ℕ)
reads_d s = line_of 68 3 (ascii s)

pub record Examples : Type 0 where
  -- printed: 0, the largest mask of members, the largest of 32 bits; a line
  pub numeral_0 : digits 10 0 ≡ ascii "0"
  pub numeral_10 : digits 10 10 ≡ ascii "10"
  pub numeral_mask : digits 10 (2 ^ 31 - 1) ≡ ascii "2147483647"
  pub numeral_largest : digits 10 (2 ^ 32 - 1) ≡ ascii "4294967295"
  pub line_printed : line (ascii "D") (1 ∷ 64 ∷ 0 ∷ []) ≡ ascii "D\t1\t64\t0\n"
  -- and read again
  pub line_read : reads_d "D\t1\t64\t0" ≡ some (1 ∷ 64 ∷ 0 ∷ [])
  -- numerals up to 65535 are read, and 0 is one
  pub quorum_65535 : reads_d "D\t1\t1\t65535" ≡ some (1 ∷ 1 ∷ 65535 ∷ [])
  pub quorum_65536 : reads_d "D\t1\t1\t65536" ≡ none
  pub six_digits : is_numeral (ascii "100000") ≡ false
  pub leading_zero : is_numeral (ascii "01") ≡ false
  pub two_zeros : is_numeral (ascii "00") ≡ false
  pub zero : is_numeral (ascii "0") ≡ true
  pub empty_numeral : is_numeral [] ≡ false
  -- lines are what stands between bytes 10: one more than there are such bytes
  pub no_bytes : parts 10 [] ≡ [] ∷ []
  pub ended : parts 10 (ascii "P\n") ≡ ascii "P" ∷ [] ∷ []
  -- another letter, more than a letter, a numeral more, a tab at the end, a carriage return
  pub letter : reads_d "d\t1\t1\t0" ≡ none
  pub two_letters : reads_d "DD\t1\t1\t0" ≡ none
  pub four_numerals : reads_d "D\t1\t1\t0\t1" ≡ none
  pub trailing_tab : reads_d "D\t1\t1\t0\t" ≡ none
  pub carriage_return : reads_d "D\t1\t1\t0\r" ≡ none
