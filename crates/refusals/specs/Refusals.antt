-- The rules' number of each refusal.
-- Assumes nothing.
use Rattle.std.specs.Prelude.{ℕ}
use Rattle.refusals.specs.declared.Refusal.{Refusal}
use Rattle.refusals.specs.declared.Refusal.TheVariants as the

abbrev pub number : Refusal → ℕ
number the.BadThreshold = 1
number the.BadSecretLength = 2
number the.BadRandomLength = 3
number the.BadSharesLength = 4
number the.BadSecretWord = 5
number the.BadRandomWord = 6
number the.BadRowsLength = 10
number the.BadInputLength = 11
number the.MemberBeyondN = 12
number the.BadQuorum = 13
number the.QuorumNotMet = 14
number the.NoSurvivors = 15
number the.TooFewAgree = 16
number the.SetTooSmall = 17
number the.BadValue = 18
number the.BadCoefficientsLength = 19
number the.TextTooLong = 21
number the.BadFirstLine = 22
number the.BadLine = 23
number the.BadLineMember = 24
number the.BadBufferLength = 25
number the.TextBufferTooShort = 31
number the.BadDay = 32
