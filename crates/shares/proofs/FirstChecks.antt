-- The checks of t, d and a day, which a call begins with: the first that fails refuses, whatever checks follow and whatever the answer is.
-- Assumes nothing.
use mathlib.Core.Path.{◌≡◌}
use mathlib.Core.Bool.{Bool, true, false}
use mathlib.Core.List.{List, [], ◌∷◌, ◌++◌}
use Prim.Native.Nat.{ℕ}
use Rattle.std.proofs.Math.Option.{none, some}
use Rattle.lists.specs.Checks.{Check, ◌unless◌, checked}
use Rattle.members.specs.Members.{is_threshold}
use Rattle.shares.specs.Layout.{is_length, is_day}
use Rattle.shares.specs.Internal.FirstChecks.{Refused, SharesRefused, first_checks, shares_checks}

-- the first check that fails is the first of a longer list too
module _ {A : Type 0} (refuse : ℕ → A) (later : List Check) (answer : A) (k : ℕ) where
  early_more : (n : ℕ) (b : Bool) (cs : List Check) → (checked some cs none ≡ some k → checked refuse (cs ++ later) answer ≡ refuse k)
      → checked some (n unless b ∷ cs) none ≡ some k → checked refuse (n unless b ∷ (cs ++ later)) answer ≡ refuse k
  early_more n true cs rest h = rest h
  early_more n false cs rest h = cc

  refused_early : (cs : List Check) → checked some cs none ≡ some k → checked refuse (cs ++ later) answer ≡ refuse k
  refused_early [] h = cc
  refused_early (c ∷ cs) h = early_more c.number c.passes cs (refused_early cs) h

pub refused_first : {A : Type 0} (refuse : ℕ → A) (later : List Check) (answer : A) {t d day k : ℕ} → Refused t d day k
    → checked refuse (1 unless is_threshold t ∷ 2 unless is_length d ∷ 32 unless is_day day ∷ later) answer ≡ refuse k
refused_first refuse later answer {t} {d} {day} {k} r =
    refused_early refuse later answer k (first_checks t d day) r.first

pub shares_refused : {A : Type 0} (refuse : ℕ → A) (later : List Check) (answer : A) {t d day present k : ℕ} {words : List ℕ} → SharesRefused t d day present words k
    → checked refuse (shares_checks t d day present words ++ later) answer ≡ refuse k
shares_refused refuse later answer {t} {d} {day} {present} {k} {words} r =
    refused_early refuse later answer k (shares_checks t d day present words) r.first

-- the checks as the code makes them
module _ (t d day : ℕ) where
  pub refused_1 : is_threshold t ≡ false → Refused t d day 1
  refused_1 e = record { first = rw e }

  module _ (threshold : is_threshold t ≡ true) where
    pub refused_2 : is_length d ≡ false → Refused t d day 2
    refused_2 e = record { first = rw (threshold, e) }

    module _ (in_length : is_length d ≡ true) where
      pub refused_32 : is_day day ≡ false → Refused t d day 32
      refused_32 e = record { first = rw (threshold, in_length, e) }

pub ruleset by_check = (refused_1, refused_2, refused_32)
