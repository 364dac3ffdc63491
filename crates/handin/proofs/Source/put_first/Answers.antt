-- The line is the letter D, t, d, the quorum and the day.
-- Assumes nothing.
use Rattle.std.proofs.Common.{[], ◌∷◌, arith}
use Rattle.lists.specs.Ascii.{ascii}
use Rattle.text.proofs.Printing.{length_from}
use Rattle.handin.proofs.Source.put_first.Goals as goal

pub put_list-requires : goal.put_list-requires
unfolding ascii
put_list-requires c =
    let s = c.args.self.now in
    rw c.first_numbers.ensures (omega (arith, c.requires, length_from (68 ∷ []) s.shares.shape.t (s.shares.shape.d ∷ s.quorum ∷ s.day ∷ [])))

pub returns-clause-written : goal.returns-clause-written
unfolding ascii
returns-clause-written c = rw c.first_numbers.ensures at c.put_list.ensures.written
