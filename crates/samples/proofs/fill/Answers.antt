-- `samples::fill`: one word more.
-- Assumes nothing.
use Rattle.std.proofs.Common.{◌∙◌}
use Rattle.samples.proofs.Iterated.{iterated_none, iterated_next, iterated_all}
use Rattle.samples.proofs.fill.Goals as goal

pub loop-word-init : goal.loop-word-init
loop-word-init g c = (c.ranges.seed.fits, λ f h. iterated_none f _ _)

pub loop-word-preserved : goal.loop-word-preserved
loop-word-preserved g c = (
  c.next-last.type_inv,
  λ f h.
      iterated_next f _ _ _ _ _ c.loop-word-test.true c.loop-word.auto.word-items (h _ _ c.loop-word.invariant.0 c.next-last.ensures)
      ∙ c.loop-word.invariant.1 f h,
)

pub returns : goal.returns
returns g c = λ f h. iterated_all f _ _ _ _ c.loop-word-test.false c.loop-word.auto.word-items ∙ c.loop-word.invariant.1 f h
