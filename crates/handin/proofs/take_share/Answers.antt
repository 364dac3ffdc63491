-- The member is judged, and then its share goes to its place, where the buffer of the shares taken has it.
-- Assumes nothing.
use Rattle.std.proofs.Common.{sym, rules}
use Rattle.lists.proofs.Stores.{part_all}
use Rattle.handin.proofs.Taking.{take_out, take_met, take_in}
use Rattle.handin.proofs.take_share.Goals as goal

pub returns-then-not-within : goal.returns-then-not-within
returns-then-not-within c = take_out c.args.s _ _ _ _ (sym c.if-not-within.ensures)

pub returns-then-has : goal.returns-then-has
returns-then-has c = take_met c.args.s _ _ _ _ (sym c.if-not-within.ensures) (sym c.if-has.ensures)

pub returns : goal.returns
returns c =
    take_in c.args.s _ _ _ _ (sym c.if-not-within.ensures) _ (sym c.if-has.ensures) c.requires (search rules)
    (rw (c.copy.ensures, part_all 1 c.args.numbers.now)) c.with.ensures
