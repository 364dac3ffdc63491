-- The corners, by computing.
-- Assumes nothing.
use Rattle.lists.specs.Tabulate.{tab}
use Rattle.members.specs.Members.{size}
use Rattle.shares.specs.Layout.{width, word, share_words, tag_word_at, key_α, key_β}
use Rattle.shares.specs.Sample.{sample}
use Rattle.shares.specs.Examples.{Examples}

pub examples : Examples
unfolding tab size width word share_words tag_word_at key_α key_β sample
examples = search
