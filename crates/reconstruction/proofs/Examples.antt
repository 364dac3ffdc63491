-- The examples and corners, by computing.
-- Assumes nothing.
use mathlib.Core.Path.{refl}
use Rattle.lists.specs.Tabulate.{tab, all, count, keep, first, concat, choose}
use Rattle.field.specs.Field.{difference, product, power, inverse}
use Rattle.polynomial.specs.Polynomial.{eval, value, linear, slopes, interpolate}
use Rattle.mac.specs.Tag.{tag}
use Rattle.members.specs.Members.{size, own_points, bit, has, set_of, card, members_of}
use Rattle.shares.specs.Layout.{width, word, share_words, tag_word_at, key_α, key_β}
use Rattle.shares.specs.Sample.{sample, day_seven, keyless}
use Rattle.pruning.specs.Pruning.{votes, round, rounds, survivors}
use Rattle.decoding.specs.Decoding.{surplus, need, agreeing, through, find}
use Rattle.voting.specs.Votes.{field_share, usable, tag_holds, vote, is_of, accepts, vote_rows, vote_table, count_of, kinds, pairs}
use Rattle.reconstruction.specs.Reconstruction.{unopened, is_quorum, required, at_zero_of, opened_from, finish, turned_away, reconstruct}
use Rattle.reconstruction.specs.Examples.{Examples}

pub examples : Examples
unfolding tab all count keep first concat choose difference product power inverse eval value linear slopes interpolate size own_points bit has set_of
    card members_of surplus need agreeing through find tag width word share_words tag_word_at key_α key_β sample day_seven keyless votes round rounds survivors
    field_share usable tag_holds vote is_of accepts vote_rows vote_table count_of kinds pairs unopened is_quorum required at_zero_of opened_from finish turned_away
    reconstruct
examples =
    record {
      c9_opened = refl;
      c10_opened = refl;
      c11 = refl;
      c12 = refl;
      c12_default = refl;
      c13 = refl;
      c14 = refl;
      quorum_above_usable = refl;
      quorum_of_usable = refl;
      quorum_of_all = refl;
      default_of_three = refl;
      default_above_usable = refl;
      default_of_four = refl;
      default_above_three = refl;
      quorum_of_three = refl;
      default_of_17 = refl;
      absent_do_not_vote = refl;
      present_vote = refl;
      day_0 = refl;
      day_65520 = refl;
      day_65521 = refl;
      day_65522 = refl;
      day_7 = refl;
      another_day = refl;
      threshold_before_length = refl;
      threshold_16_before_length = refl;
      length_before_day = refl;
      day_before_words = refl;
      length_before_words = refl;
      length_65_before_words = refl;
      words_before_bits = refl;
      bits_before_quorum = refl;
      quorum_before_usable = refl;
      quorum_above_n = refl;
      usable_before_survivors = refl;
      no_survivors = refl;
    }
