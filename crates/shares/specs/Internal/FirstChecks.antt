-- The checks of t, d and a day, which every call with all three begins with; and those of shares, which opening and the writer begin with.
-- Assumes nothing.
use Rattle.std.specs.Prelude.{ℕ, ◌*◌, ◌≡◌, true, List, [], ◌∷◌, ◌++◌, eqb, length}
use Rattle.std.proofs.Math.Option.{none, some}
use Rattle.lists.specs.Checks.{Check, ◌unless◌, checked}
use Rattle.members.specs.Members.{is_threshold, size, is_set}
use Rattle.shares.specs.Layout.{is_length, is_day, width}

-- in their order
abbrev pub first_checks : ℕ → ℕ → ℕ → List Check
first_checks t d day = 1 unless is_threshold t ∷ 2 unless is_length d ∷ 32 unless is_day day ∷ []

-- after them, how many words there are, and whether those present are among the n members
abbrev pub shares_checks : ℕ → ℕ → ℕ → ℕ → List ℕ → List Check
shares_checks t d day present words =
    first_checks t d day ++ (11 unless eqb (length words) (size t * width t d) ∷ 12 unless is_set (size t) present ∷ [])

-- all of the first pass
pub record Passed (t d day : ℕ) : Type 0 where
  pub threshold : is_threshold t ≡ true
  pub in_length : is_length d ≡ true
  pub is_a_day : is_day day ≡ true

-- the first of them that fails has this number
pub record Refused (t d day number : ℕ) : Type 0 where
  pub first : checked some (first_checks t d day) none ≡ some number

-- and the same of all five
pub record SharesPassed (t d day present : ℕ) (words : List ℕ) : Type 0 where
  pub passed : Passed t d day
  pub in_full : eqb (length words) (size t * width t d) ≡ true
  pub proper : is_set (size t) present ≡ true

pub record SharesRefused (t d day present : ℕ) (words : List ℕ) (number : ℕ) : Type 0 where
  pub first : checked some (shares_checks t d day present words) none ≡ some number
