-- `parity::Halves::add_member`: each place has room for its product.
-- Assumes nothing.
use Rattle.std.proofs.Common.{arith, refl}
use native.Mathlib.Nat.{mul-le-mul}
use Rattle.parity.proofs.Summing.{added_none, added_next, low_room}
use Rattle.parity.proofs.Halves.add_member.Goals as goal

pub loop-k-init : goal.loop-k-init
loop-k-init c = added_none _ _ _ _

pub overflow_add-self : goal.overflow_add-self
overflow_add-self c = omega (arith, low_room _ _ _ _ _ _ _ c.loop-k.invariant c.requires.room)

pub loop-k-preserved : goal.loop-k-preserved
loop-k-preserved c =
    added_next _ _ _ _ _ _ _ c.loop-k.invariant _ refl (mul-le-mul {n₂ = 65535} {m₂ = 65535} (omega arith) (omega arith)) (omega arith) (omega arith)
