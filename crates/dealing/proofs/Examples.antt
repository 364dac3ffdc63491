-- The examples and corners, by computing.
-- Assumes nothing.
use Rattle.lists.specs.Tabulate.{tab, each, concat}
use Rattle.polynomial.specs.Polynomial.{eval, value}
use Rattle.mac.specs.Tag.{tag}
use Rattle.members.specs.Members.{size, own_points}
use Rattle.shares.specs.Layout.{width, assembled}
use Rattle.shares.specs.Sample.{sample, day_seven, keyless}
use Rattle.dealing.specs.Dealing.{random_length, polynomial, dealt_α, dealt_β, dealt_words, dealt_tag, dealt_share, dealt_shares, deal}
use Rattle.dealing.specs.Examples.{Examples}

pub examples : Examples
unfolding tab each concat eval value tag size own_points width assembled sample day_seven keyless random_length polynomial dealt_α dealt_β dealt_words dealt_tag dealt_share dealt_shares deal
examples = search
