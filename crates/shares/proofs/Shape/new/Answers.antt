-- `shares::Shape::new`: n and the width are by their definitions, and small for t and d in range.
-- Assumes nothing.
use Rattle.std.proofs.Common.{◌+◌, ◌*◌, ◌≤◌, refl, arith}
use native.Mathlib.Nat.{mul-le-mul}
use Rattle.members.specs.Members.{size}
use Rattle.shares.specs.Layout.{width}
use Rattle.shares.proofs.Shape.new.Goals as goal

pub overflow_mul-result : goal.overflow_mul-result
unfolding size
overflow_mul-result c = omega (arith, c.size-n.ensures, c.requires.1)

pub overflow_add-result : goal.overflow_add-result
unfolding size
overflow_add-result c = omega (arith, c.size-n.ensures, c.requires.1, c.requires.3)

pub invariant_of-result : goal.invariant_of-result
unfolding size width
invariant_of-result c =
    let few : c.size-n.result ≤ 31 = omega (arith, c.size-n.ensures, c.requires.1) in
    let narrow : c.args.d + 3 * c.size-n.result ≤ 157 = omega (arith, few, c.requires.3) in
    record {
      t_low = c.requires.0;
      t_high = c.requires.1;
      d_low = c.requires.2;
      d_high = c.requires.3;
      members = c.size-n.ensures;
      share = omega (arith, c.size-n.ensures);
      parts = refl;
      few = few;
      narrow = narrow;
      fit = mul-le-mul {n₂ = 31} {m₂ = 157} few narrow;
    }
