-- `reconstruction::Survivors::open_all`: the words that the look opens are begun; where it opens all, all is found.
-- Assumes nothing.
use Rattle.std.proofs.Common.{arith}
use Rattle.reconstruction.proofs.AllWords.{opening_begun, opening_last}
use Rattle.reconstruction.proofs.Quick.{quick_begun}
use Rattle.reconstruction.proofs.Survivors.open_all.Goals as goal

pub open_words-requires-clause-begun : goal.open_words-requires-clause-begun
open_words-requires-clause-begun c =
    quick_begun c.args.self.now _ _ _ c.open_quickly-done.ensures.secret_after c.requires.secret_len c.open_quickly-done.ensures.value

pub returns-then-done-self : goal.returns-then-done-self
returns-then-done-self c =
    opening_last c.args.self.now
    (opening_begun c.args.self.now (omega (arith, c.open_quickly-done.auto, c.requires.secret_len))
    (quick_begun c.args.self.now _ _ _ c.open_quickly-done.ensures.secret_after c.requires.secret_len c.open_quickly-done.ensures.value))
    (omega arith)
