-- The checks that opening and the writer begin with, as the code makes them: those of t, d and a day, then how many words there are and who is present.
-- Assumes nothing.
use mathlib.Core.Path.{◌≡◌, sym, ap, ap₂, ◌∙◌}
use mathlib.Core.Bool.{true, false}
use mathlib.Core.List.{List, [], ◌∷◌}
use mathlib.Core.Option.{none, some}
use Prim.Native.Nat.{ℕ, ◌*◌}
use lib.Dec.{eqb}
use lib.ListN.{length}
use borrow.Author.Tests.{eq-eqb, ne_eqb}
use Rattle.lists.specs.Checks.{◌unless◌}
use Rattle.members.specs.Members.{size, is_set}
use Rattle.shares.specs.Layout.{width}
use Rattle.shares.specs.Internal.FirstChecks.{Passed, Refused, SharesPassed, SharesRefused}
use Rattle.shares.specs.declared.Shape.{Shape}
use Rattle.shares.proofs.FirstChecks.{refused_first}

module _ (t d day present : ℕ) (words : List ℕ) where
  -- one of the first fails
  pub refused_as_first : {k : ℕ} → Refused t d day k → SharesRefused t d day present words k
  refused_as_first r =
      record { first = refused_first some (11 unless eqb (length words) (size t * width t d) ∷ 12 unless is_set (size t) present ∷ []) none r }

  -- they all pass, and the shape is that of t and d
  module _ (s : Shape) (passed : (s.t ≡ t) × (s.d ≡ d) × Passed t d day) where
    p : Passed t d day
    p = passed.2

    n_is : s.n ≡ size t
    n_is = s.members ∙ ap size passed.0

    all_words : s.n * s.width ≡ size t * width t d
    all_words = ap₂ ◌*◌ n_is (s.share ∙ ap₂ width passed.0 passed.1)

    pub refused_11 : (length words ≡ s.n * s.width → ⊥) → SharesRefused t d day present words 11
    refused_11 h =
        record { first = rw (p.threshold, p.in_length, p.is_a_day, ne_eqb (length words) (size t * width t d) (λ q. h (q ∙ sym all_words))) }

    module _ (long : length words ≡ s.n * s.width) where
      in_full : eqb (length words) (size t * width t d) ≡ true
      in_full = eq-eqb (length words) (size t * width t d) (long ∙ all_words)

      pub refused_12 : is_set s.n present ≡ false → SharesRefused t d day present words 12
      refused_12 h =
          record { first = rw (p.threshold, p.in_length, p.is_a_day, in_full, ap (λ (n : ℕ). is_set n present) (sym n_is) ∙ h) }

      pub all_passed : is_set s.n present ≡ true → SharesPassed t d day present words
      all_passed h = record { passed = p; in_full = in_full; proper = ap (λ (n : ℕ). is_set n present) (sym n_is) ∙ h }

pub ruleset by_check = (refused_as_first, refused_11, refused_12, all_passed)
