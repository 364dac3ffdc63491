-- No refusal has the number 0.
-- Assumes nothing.
use mathlib.Core.Path.{◌≡◌, refl}
use mathlib.Core.Bool.{false}
use Prim.Native.Nat.{◌≤◌}
use native.Mathlib.Omega.{arith}
use lib.Dec.{eqb}
use borrow.Author.Tests.{eqb-false}
use Rattle.refusals.specs.declared.Refusal.{Refusal}
use Rattle.refusals.specs.declared.Refusal.TheVariants as the
use Rattle.refusals.specs.Refusals.{number}

pub numbered : (k : Refusal) → eqb (number k) 0 ≡ false
numbered the.BadThreshold = refl
numbered the.BadSecretLength = refl
numbered the.BadRandomLength = refl
numbered the.BadSharesLength = refl
numbered the.BadSecretWord = refl
numbered the.BadRandomWord = refl
numbered the.BadRowsLength = refl
numbered the.BadInputLength = refl
numbered the.MemberBeyondN = refl
numbered the.BadQuorum = refl
numbered the.QuorumNotMet = refl
numbered the.NoSurvivors = refl
numbered the.TooFewAgree = refl
numbered the.SetTooSmall = refl
numbered the.BadValue = refl
numbered the.BadCoefficientsLength = refl
numbered the.TextTooLong = refl
numbered the.BadFirstLine = refl
numbered the.BadLine = refl
numbered the.BadLineMember = refl
numbered the.BadBufferLength = refl
numbered the.TextBufferTooShort = refl
numbered the.BadDay = refl

-- so it is 1 at least
pub positive : (k : Refusal) → 1 ≤ number k
positive k = omega (arith, eqb-false (number k) 0 (numbered k))
