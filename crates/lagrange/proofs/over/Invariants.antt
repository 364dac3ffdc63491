-- `lagrange::over`: the result is the product over the points passed, for every function that the closure computes.
-- Assumes nothing.
use Rattle.std.proofs.Common.{◌≡◌, ℕ, ◌%◌, ◌^◌, ◌<◌, take}
use Rattle.field.specs.Field.{prime}
use Rattle.lagrange.specs.Internal.Lagrange.{over}
use Rattle.lagrange.proofs.over.Given as goal

abbrev pub invariant-loop-point : goal.invariant-loop-point
invariant-loop-point g l =
    (f : ℕ → ℕ) → ((x y : ℕ) → x < 2 ^ 16 → goal.F-post g l.factor x y → y ≡ f x) → l.result ≡ over f (take l.point-index l.points) % prime
