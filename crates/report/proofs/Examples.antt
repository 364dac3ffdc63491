-- The examples and corners, by computing.
-- Assumes nothing.
use mathlib.Core.Path.{refl}
use Rattle.lists.specs.Ascii.{ascii}
use Rattle.lists.specs.Tabulate.{tab, all, count, keep, each, first, concat, choose}
use Rattle.field.specs.Field.{difference, product, power, inverse}
use Rattle.polynomial.specs.Polynomial.{eval, value, linear, slopes, interpolate}
use Rattle.mac.specs.Tag.{tag}
use Rattle.members.specs.Members.{size, own_points, bit, has, set_of, card, members_of}
use Rattle.shares.specs.Layout.{width, word, share_words, tag_word_at, key_α, key_β}
use Rattle.pruning.specs.Pruning.{votes, round, rounds, survivors}
use Rattle.decoding.specs.Decoding.{surplus, need, agreeing, through, find}
use Rattle.voting.specs.Votes.{field_share, usable, tag_holds, vote, is_of, accepts, vote_rows}
use Rattle.reconstruction.specs.Reconstruction.{unopened, is_quorum, required, at_zero_of, opened_from, finish, turned_away, reconstruct}
use Rattle.text.specs.Lines.{digits, field, line, before, parts, decimal, leads_with_zero, is_numeral, numerals, is_letter, numbers_of, line_of}
use Rattle.handin.specs.Reader.{share_of, is_some, words_or, take_share, take_numbers, take_line, take_lines, unread, placed, read_from, read_numbers, read_lines, read}
use Rattle.handin.specs.Sample.{line_d, line1, line2, line3, sample_text, keyless_text}
use Rattle.report.specs.Report.{word_line, print_opened, print_read, report}
use Rattle.report.specs.Examples.{Examples}

pub examples : Examples
unfolding
    digits field line word_line print_opened print_read report before parts decimal leads_with_zero is_numeral numerals is_letter numbers_of line_of share_of is_some
    words_or take_share take_numbers take_line take_lines unread placed read_from read_numbers read_lines read line_d line1 line2 line3 sample_text keyless_text
    ascii tab all count keep each first concat choose difference product power inverse eval value linear slopes interpolate size own_points bit has set_of
    card members_of surplus need agreeing through find tag width word share_words tag_word_at key_α key_β votes round rounds survivors field_share usable tag_holds
    vote is_of accepts vote_rows unopened is_quorum required at_zero_of opened_from finish turned_away reconstruct
examples =
    record {
      c9_printed = refl;
      c10_printed = refl;
      two_words = refl;
      refused_13 = refl;
      refused_14 = refl;
      no_spare = refl;
      no_spare_named = refl;
      refused_15 = refl;
      another_day = refl;
      no_day = refl;
      refused_21 = refl;
      refused_22 = refl;
      refused_23 = refl;
      refused_24 = refl;
    }
