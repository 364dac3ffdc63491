-- `field::add_products`: the total has c and the products below i, and fits 64 bits.
-- Assumes nothing.
use Rattle.std.proofs.Common.{◌≡◌, ◌+◌, ◌*◌, ◌≤◌, take}
use Rattle.field.specs.Internal.Dot.{dot}
use Rattle.field.proofs.add_products.Given as goal

abbrev pub invariant-loop-i : goal.invariant-loop-i
invariant-loop-i g l =
    record {
      so_far : l.total ≡ l.c + dot (take l.i l.a) (take l.i l.b);
      fits : l.total ≤ 65535 + 4294836225 * l.i;
    }
