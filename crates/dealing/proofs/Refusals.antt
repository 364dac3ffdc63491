-- Dealing by its checks: the first that fails refuses and leaves the buffer, and where all pass the shares are dealt.
-- Assumes nothing.
use mathlib.Core.Path.{◌≡◌, refl, sym, ap, ap₂, ◌∙◌}
use mathlib.Core.Bool.{true, false}
use mathlib.Core.List.{List}
use Prim.Native.Nat.{ℕ, ◌+◌, ◌*◌, ◌≤◌}
use native.Mathlib.Nat.{le_refl}
use lib.Dec.{eqb}
use lib.ListN.{length, drop}
use borrow.Author.Tests.{eq-eqb, ne_eqb}
use Rattle.lists.specs.Tabulate.{each}
use Rattle.lists.proofs.Checks.{all_pass}
use Rattle.lists.proofs.Every.{Every}
use Rattle.field.specs.Field.{is_field_word}
use Rattle.members.specs.Members.{size, own_points}
use Rattle.shares.specs.Layout.{width}
use Rattle.shares.specs.Internal.FirstChecks.{Passed, Refused}
use Rattle.shares.proofs.FirstChecks.{refused_first}
use Rattle.shares.specs.declared.Shape.{Shape}
use Rattle.dealing.proofs.Places.{coefficients_le, row_le}
use Rattle.dealing.specs.Dealing.{random_length, dealt_shares, Dealt, checks, deal}
use Rattle.dealing.specs.Internal.Steps.{Accepted}

-- a refusal leaves the buffer
abbrev pub refusal : List ℕ → ℕ → Dealt
refusal buffer k = record { number = k; shares = buffer }

module _ (t day : ℕ) (secret random buffer : List ℕ) where
  -- one of the first checks fails
  pub refused : (k : ℕ) → Refused t (length secret) day k → deal t day secret random buffer ≡ refusal buffer k
  unfolding deal
  refused k r =
      refused_first (refusal buffer) (drop 3 (checks t day secret random buffer))
      (record { number = 0; shares = dealt_shares (own_points t) t day secret random }) r

  -- they all pass
  module _ (p : Passed t (length secret) day) where
    pub refused_3 : (length random ≡ random_length t (length secret) → ⊥) → refusal buffer 3 ≡ deal t day secret random buffer
    unfolding deal
    refused_3 n₃ = rw (p.threshold, p.in_length, p.is_a_day, ne_eqb (length random) (random_length t (length secret)) n₃)

    module _ (e₃ : length random ≡ random_length t (length secret)) where
      t₃ : eqb (length random) (random_length t (length secret)) ≡ true
      t₃ = eq-eqb (length random) (random_length t (length secret)) e₃

      pub refused_4 : (length buffer ≡ size t * width t (length secret) → ⊥) → refusal buffer 4 ≡ deal t day secret random buffer
      unfolding deal
      refused_4 n₄ = rw (p.threshold, p.in_length, p.is_a_day, t₃, ne_eqb (length buffer) (size t * width t (length secret)) n₄)

      module _ (e₄ : length buffer ≡ size t * width t (length secret)) where
        t₄ : eqb (length buffer) (size t * width t (length secret)) ≡ true
        t₄ = eq-eqb (length buffer) (size t * width t (length secret)) e₄

        pub refused_5 : each is_field_word secret ≡ false → refusal buffer 5 ≡ deal t day secret random buffer
        unfolding deal
        refused_5 e₅ = rw (p.threshold, p.in_length, p.is_a_day, t₃, t₄, e₅)

        module _ (e₅ : each is_field_word secret ≡ true) where
          pub refused_6 : each is_field_word random ≡ false → refusal buffer 6 ≡ deal t day secret random buffer
          unfolding deal
          refused_6 e₆ = rw (p.threshold, p.in_length, p.is_a_day, t₃, t₄, e₅, e₆)

          pub dealt : (e₆ : each is_field_word random ≡ true) (shares : List ℕ) → shares ≡ dealt_shares (own_points t) t day secret random
              → record { number = 0; shares = shares } ≡ deal t day secret random buffer
          unfolding deal
          dealt e₆ shares es = rw (p.threshold, p.in_length, p.is_a_day, t₃, t₄, e₅, e₆, es)

  -- the shape's numbers are small, and it has the lengths of the definition
  module _ (s : Shape) (et : s.t ≡ t) (ed : s.d ≡ length secret) where
    pub few_keys : s.n * s.n ≤ 961
    few_keys = row_le s s.n (le_refl s.n)

    pub random_is : s.t * s.d + 2 * (s.n * s.n) ≡ random_length t (length secret)
    unfolding random_length
    random_is = rw (et, ed) (ap (λ (n : ℕ). t * length secret + 2 * (n * n)) (s.members ∙ ap size et))

    pub buffer_is : s.n * s.width ≡ size t * width t (length secret)
    buffer_is = ap₂ ◌*◌ (s.members ∙ ap size et) (s.share ∙ ap₂ width et ed)

  -- all checks have passed
  pub accepted : (s : Shape) → (s.t ≡ t) × (s.d ≡ length secret) × Passed t (length secret) day
      → length random ≡ s.t * s.d + 2 * (s.n * s.n) → length buffer ≡ s.n * s.width
      → each is_field_word secret ≡ true → each is_field_word random ≡ true → Accepted t day secret random buffer s
  accepted s (et, ed, p) e₃ e₄ e₅ e₆ =
      let random_long : length random ≡ random_length t (length secret) = e₃ ∙ random_is s et ed in
      record {
        threshold = et;
        supplied = record { secret_long = sym ed; random_long = random_long ∙ ap₂ random_length (sym et) (sym ed) };
        room = e₄;
        dealt = sym (dealt p random_long (e₄ ∙ buffer_is s et ed) e₅ e₆ (dealt_shares (own_points t) t day secret random) refl);
      }

  -- an accepted input has passed all checks
  pub all_accept : (deal t day secret random buffer).number ≡ 0 → Every (λ c. c.passes ≡ true) (checks t day secret random buffer)
  unfolding deal each
  all_accept h =
      all_pass (refusal buffer) (λ a. a.number) (λ k. refl) (checks t day secret random buffer) refl
      (record { number = 0; shares = dealt_shares (own_points t) t day secret random }) h

-- for the checks as the code makes them
pub ruleset by_check = (refused, refused_3, refused_4, refused_5, refused_6, accepted, coefficients_le, few_keys, random_is, buffer_is)
