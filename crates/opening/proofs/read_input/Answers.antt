-- The bytes of a read have room, and follow those before.
-- Assumes nothing.
use Rattle.std.proofs.Common.{rules, ◌∙◌, sym}
use Rattle.opening.proofs.Steps.{read_fits, follows}
use Rattle.opening.proofs.read_input.Goals as goal

pub loop-n-preserved : goal.loop-n-preserved
loop-n-preserved g c =
    let (fits, read) = read_fits _ _ c.read-got.new.buf _ _ (search rules) _ (sym c.judge.ensures ∙ c.in_ok-count.was) c.read-got.ensures.bound c.read-got.ensures.bytes in
    (search rules, search rules, follows _ _ _ _ _ _ _ _ c.loop-n.invariant.0 fits c.loop-n.invariant.2 read)
