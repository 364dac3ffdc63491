-- What a day is below.
-- Assumes nothing.
use mathlib.Core.Path.{◌≡◌}
use mathlib.Core.Bool.{true}
use Prim.Native.Nat.{ℕ, ◌<◌}
use native.Mathlib.Omega.{arith}
use Rattle.lists.proofs.Checks.{within_high}
use Rattle.shares.specs.Layout.{is_day}

pub day_below : (day : ℕ) → is_day day ≡ true → day < 65521
day_below day h = omega (arith, within_high 1 65520 day h)
