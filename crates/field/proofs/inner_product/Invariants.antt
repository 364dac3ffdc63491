-- `field::inner_product`: the two sums are the halves of the products so far, and fit 32 bits with 64 places.
-- Assumes nothing.
use Rattle.std.proofs.Common.{◌≡◌, ◌+◌, ◌*◌, ◌≤◌, take}
use Rattle.field.specs.Internal.Dot.{dot}
use Rattle.field.proofs.inner_product.Given as goal

abbrev pub invariant-loop-i : goal.invariant-loop-i
invariant-loop-i l =
    record {
      so_far : l.sum.low + 65536 * l.sum.high ≡ dot (take (l.i) l.a) (take (l.i) l.b);
      low_fits : l.sum.low ≤ 65535 * l.i;
      high_fits : l.sum.high ≤ 65535 * l.i;
    }
