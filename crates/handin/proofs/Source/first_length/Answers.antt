-- The line is the letter D, t, d, the quorum and the day.
-- Assumes nothing.
use Rattle.lists.specs.Ascii.{ascii}
use Rattle.handin.proofs.Source.first_length.Goals as goal

pub returns : goal.returns
unfolding ascii
returns c = rw c.first_numbers.ensures at c.list_length.ensures
