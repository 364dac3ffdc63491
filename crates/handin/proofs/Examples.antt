-- The examples and corners, by computing.
-- Assumes nothing.
use mathlib.Core.Path.{refl}
use Rattle.lists.specs.Ascii.{ascii}
use Rattle.lists.specs.Tabulate.{tab, each, first, concat}
use Rattle.members.specs.Members.{size, bit, has, set_of}
use Rattle.shares.specs.Layout.{width, word}
use Rattle.shares.specs.Sample.{sample, keyless}
use Rattle.text.specs.Lines.{digits, field, line, before, parts, decimal, leads_with_zero, is_numeral, numerals, is_letter, numbers_of, line_of}
use Rattle.handin.specs.Reader.{share_of, is_some, words_or, take_share, take_numbers, take_line, take_lines, unread, placed, read_from, read_numbers, read_lines, read}
use Rattle.handin.specs.Sample.{line_d, line1, line2, line3, sample_text, keyless_text}
use Rattle.handin.specs.Writer.{share_line, share_lines, text_of, unwritten, written, write}
use Rattle.handin.specs.Examples.{Examples}

pub examples : Examples
unfolding
    before parts decimal leads_with_zero is_numeral numerals is_letter numbers_of line_of share_of is_some words_or take_share take_numbers take_line take_lines unread
    placed read_from read_numbers read_lines read digits field line share_line share_lines text_of unwritten written write line_d line1 line2 line3 sample_text
    keyless_text ascii tab each first concat size bit has set_of width word sample keyless
examples =
    record {
      c9_read = refl;
      c10_read = refl;
      nobody = refl;
      three_then_one = refl;
      word_65535 = refl;
      quorum_65535 = refl;
      day_65520 = refl;
      buffer_before_text = refl;
      text_before_line = refl;
      text_40000 = refl;
      empty = refl;
      unended = refl;
      blank = refl;
      line_before_next = refl;
      t_0 = refl;
      t_16 = refl;
      d_0 = refl;
      d_65 = refl;
      no_day = refl;
      day_0 = refl;
      day_65521 = refl;
      day_65535 = refl;
      day_65537 = refl;
      day_01 = refl;
      day_then_more = refl;
      short = refl;
      long = refl;
      second_D = refl;
      blank_at_end = refl;
      unended_at_end = refl;
      member_65536 = refl;
      last_word_65536 = refl;
      member_0 = refl;
      member_4 = refl;
      member_65535 = refl;
      member_again = refl;
      short_member_0 = refl;
      bad_word_member_again = refl;
      again_then_junk = refl;
      junk_then_again = refl;
      sample_written = refl;
      two_written = refl;
      nobody_written = refl;
      two_words = refl;
      any_quorum = refl;
      any_word = refl;
      just_fits = refl;
      one_short = refl;
      no_room = refl;
      write_day_0 = refl;
      write_day_65520 = refl;
      write_day_65521 = refl;
      write_day_65535 = refl;
      write_t_0 = refl;
      write_t_16 = refl;
      write_d_0 = refl;
      write_d_65 = refl;
      words_29 = refl;
      words_31 = refl;
      beyond_n = refl;
      write_1_before_2 = refl;
      write_2_before_32 = refl;
      write_32_before_11 = refl;
      write_2_before_11 = refl;
      write_11_before_12 = refl;
      write_12_before_31 = refl;
    }
