-- The examples and corners, by computing.
-- Assumes nothing.
use borrow.Author.Rules.{rules}
use Rattle.lists.specs.Tabulate.{tab, count, each}
use Rattle.members.specs.Members.{size, bit, has, set_of, striking}
use Rattle.pruning.specs.Pruning.{votes, round, rounds, survivors, prune}
use Rattle.pruning.specs.Counts.{counted}
use Rattle.pruning.specs.Examples.{Strikes, Examples}

pub examples : Examples
unfolding count each size bit has set_of votes round rounds survivors prune
examples = search

pub strikes : Strikes
unfolding tab count size bit has set_of striking votes counted
strikes = search rules
