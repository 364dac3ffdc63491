-- The corners, by computing.
-- Assumes nothing.
use mathlib.Core.Path.{refl}
use Rattle.lists.specs.Ascii.{ascii}
use Rattle.lists.specs.Tabulate.{each, concat}
use Rattle.text.specs.Lines.{digits, decimal, leads_with_zero, is_numeral, field, before, parts, numerals, line, is_letter, numbers_of, line_of}
use Rattle.text.specs.Examples.{Examples}

pub examples : Examples
unfolding ascii each concat digits decimal leads_with_zero is_numeral field before parts numerals line is_letter numbers_of line_of
examples =
    record {
      numeral_0 = refl;
      numeral_10 = refl;
      numeral_mask = refl;
      numeral_largest = refl;
      line_printed = refl;
      line_read = refl;
      quorum_65535 = refl;
      quorum_65536 = refl;
      six_digits = refl;
      leading_zero = refl;
      two_zeros = refl;
      zero = refl;
      empty_numeral = refl;
      no_bytes = refl;
      ended = refl;
      letter = refl;
      two_letters = refl;
      four_numerals = refl;
      trailing_tab = refl;
      carriage_return = refl;
    }
