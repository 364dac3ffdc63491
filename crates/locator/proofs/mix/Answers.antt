-- `locator::mix`: each coefficient is worked out from what stood there; after all places nothing is left.
-- Assumes nothing.
use Rattle.std.proofs.Common.{arith}
use Rattle.std.proofs.Math.ListN.{length-set}
use Rattle.locator.proofs.Loops.{mixed_next, mixed_last}
use Rattle.locator.proofs.mix.Goals as goal

pub loop-j-preserved : goal.loop-j-preserved
loop-j-preserved c = record {
  long = simp length-set (omega arith);
  so_far =
      mixed_next _ _ _ _ _ _ _ _ (omega arith) (omega arith) c.multiply.ensures c.add_product.ensures c.loop-j.invariant.so_far;
}

pub returns : goal.returns
returns c = mixed_last _ _ _ _ _ _ (omega arith) c.loop-j.invariant.so_far
