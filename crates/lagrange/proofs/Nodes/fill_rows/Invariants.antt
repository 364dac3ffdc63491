-- `lagrange::Nodes::fill_rows`: the rows below x are filled.
-- Assumes nothing.
use Rattle.std.proofs.Common.{◌≡◌, ℕ, ◌<◌, [], length, get_or, take}
use Rattle.lagrange.specs.Internal.Lagrange.{Reads}
use Rattle.lagrange.proofs.Nodes.fill_rows.Given as goal

abbrev pub invariant-loop-x : goal.invariant-loop-x
invariant-loop-x l =
    (length l.rows ≡ 32) × ((z : ℕ) → z < l.x → Reads l.self.points.now z (take (length l.self.points.now) (get_or l.rows z [])))
