-- `decoding::Word::through`: what trying the polynomial through the members that were gathered decides.
-- Assumes nothing.
use Rattle.std.proofs.Common.{true, false, sym, ◌∙◌, arith}
use Rattle.decoding.proofs.Tried.{tried_few, tried}
use Rattle.decoding.proofs.Word.through.Goals as goal

pub returns-in_err-gather : goal.returns-in_err-gather
returns-in_err-gather c = rw c.from_residual.ensures (tried_few c.args.self.now _ (rw c.in_err-gather.was at c.gather.ensures))

pub returns-then-enough_agree : goal.returns-then-enough_agree
returns-then-enough_agree c =
    tried c.args.self.now _ _ _ _ (rw c.in_ok-gather.was at c.gather.ensures) c.gather.array_long (omega arith) c.interpolate.ensures true (sym c.if-enough_agree.true ∙ c.enough_agree.ensures)

pub returns : goal.returns
returns c =
    tried c.args.self.now _ _ _ _ (rw c.in_ok-gather.was at c.gather.ensures) c.gather.array_long (omega arith) c.interpolate.ensures false (sym c.if-enough_agree.false ∙ c.enough_agree.ensures)
