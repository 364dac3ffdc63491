-- t is at most 15, so there are at most 31 members.
use Rattle.std.proofs.Common.{◌≡◌, ◌≤◌, ℕ, arith, sym, length-take-le}
use Rattle.members.specs.Members.{size}
use Rattle.members.proofs.Words.{size_31}
use Rattle.test_decoding.proofs.word.Goals as goal

few : (t n : ℕ) → t ≤ 15 → n ≡ size t → n ≤ 31
few t n small e = omega (arith, e, size_31 t small)

pub slice_bounds-values-end : goal.slice_bounds-values-end
slice_bounds-values-end g c = few _ _ (omega (arith, c.if-t-gt15.false)) c.size-n.ensures

pub slice_bounds-run-end-3 : goal.slice_bounds-run-end-3
slice_bounds-run-end-3 g c = sym (length-take-le _ _ (few _ _ (omega (arith, c.if-t-gt15.false)) c.size-n.ensures))
