-- The corners, by computing.
-- Assumes nothing.
use Rattle.lists.specs.Tabulate.{tab, all, keep, concat}
use Rattle.field.specs.Field.{product, power}
use Rattle.polynomial.specs.Polynomial.{eval, value}
use Rattle.mac.specs.Tag.{tag}
use Rattle.members.specs.Members.{size, bit, has, set_of}
use Rattle.shares.specs.Layout.{width, word, share_words, tag_word_at, key_α, key_β}
use Rattle.shares.specs.Sample.{sample, day_seven, keyless}
use Rattle.voting.specs.Votes.{field_share, usable, tag_holds, vote, is_of, accepts, vote_rows, vote_table, count_of, kinds, pairs}
use Rattle.voting.specs.Examples.{Examples}

pub examples : Examples
unfolding tab all keep concat product power eval value tag size bit has set_of width word share_words tag_word_at key_α key_β sample day_seven keyless field_share usable
    tag_holds vote is_of accepts vote_rows vote_table count_of kinds pairs
examples = search
