-- `decoding::Word::solve`: what the polynomial by the located E decides, if it is right or not.
-- Assumes nothing.
use Rattle.std.proofs.Common.{ap, arith}
use Rattle.locator.specs.Internal.Pairs.{State}
use Rattle.decoding.proofs.Tried.{decided_by}
use Rattle.decoding.proofs.Word.solve.Goals as goal

pub returns : goal.returns
returns c =
    rw c.ok_or.ensures.value
    (decided_by c.args.self.now _ _ (ap (λ (s : State). s.e1) c.locate-pairs.ensures) (omega arith) _ c.through.ensures)
