-- `locator::raise`: each coefficient is worked out from the carry and from what stood there; after all nothing is left.
-- Assumes nothing.
use Rattle.std.proofs.Common.{refl, arith}
use Rattle.std.proofs.Math.ListN.{length-set}
use Rattle.locator.proofs.Loops.{raised_next, raised_last}
use Rattle.locator.proofs.raise.Goals as goal

pub loop-coefficient-preserved : goal.loop-coefficient-preserved
loop-coefficient-preserved c = record {
  long = simp length-set (omega arith);
  so_far =
      raised_next _ _ _ _ _ _ _ _ (omega arith) c.subtract-minus.ensures refl c.add_product.ensures c.loop-coefficient.invariant.so_far;
}

pub returns : goal.returns
returns c = raised_last _ _ _ _ _ (omega arith) c.loop-coefficient.invariant.so_far
