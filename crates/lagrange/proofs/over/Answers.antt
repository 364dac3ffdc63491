-- `lagrange::over`: one more factor at each point.
-- Assumes nothing.
use Rattle.std.proofs.Common.{ap, ◌∙◌, ◌%◌, refl}
use Rattle.std.proofs.lemmas.List.{take_all}
use Rattle.field.specs.Field.{prime}
use Rattle.lagrange.specs.Internal.Lagrange.{over}
use Rattle.lagrange.proofs.Products.{over_next}
use Rattle.lagrange.proofs.over.Goals as goal

pub loop-point-init : goal.loop-point-init
unfolding over
loop-point-init g c = λ f h. refl

pub loop-point-preserved : goal.loop-point-preserved
loop-point-preserved g c =
    λ f h. c.multiply-result.ensures
    ∙ over_next f _ _ _ _ c.loop-point-test.true (c.loop-point.invariant f h) (h _ _ (c.type_inv.points c.loop-point.point-index).fits c.factor.ensures)

pub returns : goal.returns
returns g c =
    λ f h. c.loop-point.invariant f h ∙ ap (λ l. over f l % prime) (take_all _ _ c.loop-point-test.false)
