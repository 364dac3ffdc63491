-- `polynomial::add_eight`: the sum is that of `top` and the coefficients so far, and fits 64 bits.
-- Assumes nothing.
use Rattle.std.proofs.Common.{◌≡◌, ◌+◌, ◌*◌, ◌≤◌, length, take, get_or}
use Rattle.field.specs.Internal.Dot.{dot}
use Rattle.polynomial.proofs.add_eight.Given as goal

abbrev pub invariant-loop-word : goal.invariant-loop-word
invariant-loop-word l =
    record {
      so_far : l.sum ≡ dot (take (length l.yielded) l.block) (take (length l.yielded) l.powers) + l.top * get_or l.powers 8 0;
      fits : l.sum ≤ 65535 * l.top + 4294836225 * length l.yielded;
    }
