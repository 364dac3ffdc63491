-- `members::those`: of the members below i, those that pass are in the set, whatever the test is.
-- Assumes nothing.
use Rattle.std.proofs.Common.{◌≡◌, ℕ, Bool, ◌<◌}
use Rattle.members.specs.Members.{set_of}
use Rattle.members.proofs.those.Given as goal

abbrev pub invariant-loop-i : goal.invariant-loop-i
invariant-loop-i g l =
    (p : ℕ → Bool) → ((i : ℕ) (b : Bool) → i < l.n → goal.F-post g l.test i b → b ≡ p i) → l.set ≡ set_of l.i p
