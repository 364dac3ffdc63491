-- What decoding answers, by the checks that an input passes.
-- Assumes nothing.
use mathlib.Core.Path.{◌≡◌, refl, sym, ap, ◌∙◌}
use mathlib.Core.Bool.{Bool, true, false, ◌||◌, not}
use mathlib.Core.List.{List, [], ◌∷◌}
use Prim.Native.Nat.{ℕ, suc, ◌+◌, ◌≤◌, ◌<◌, ◌^◌, suc-le-suc}
use native.Mathlib.Numerals.{add-one}
use lib.Dec.{leb, eqb}
use lib.ListN.{length, get_or}
use borrow.Author.Tests.{ltb-true, eqb-true, eq-eqb, ne_eqb, le-leb, lt-leb}
use Rattle.lists.specs.Tabulate.{all}
use Rattle.lists.specs.Checks.{Check, ◌unless◌, checked}
use Rattle.lists.proofs.Checks.{within_high}
use Rattle.field.specs.Field.{is_field_word}
use Rattle.members.specs.Members.{is_threshold, size, own_points, has, is_set, card}
use Rattle.members.proofs.Words.{card_32}
use Rattle.decoding.specs.Internal.Outcome.{Accepted}
use Rattle.decoding.specs.Decoding.{find, Decoded, undecoded, decoded_from, decode}

-- the value of member i, if it is in the set, is a field word
abbrev pub judged_at : List ℕ → ℕ → ℕ → Bool
judged_at values set i = not (has set i) || is_field_word (get_or values i 0)

module _ (t : ℕ) (values : List ℕ) (set len : ℕ) where
  -- what an accepted input is decoded to
  decoded : Decoded
  decoded = decoded_from len (find (own_points t) t 1 (λ i k. get_or values i 0) set)

  checks : List Check
  checks =
      1 unless is_threshold t
      ∷ 11 unless eqb (length values) (size t)
      ∷ 19 unless eqb len (suc t)
      ∷ 12 unless is_set (size t) set
      ∷ 17 unless leb (suc t) (card (size t) set)
      ∷ 18 unless all (size t) (judged_at values set)
      ∷ []

  by_checks : decode t values set len ≡ checked (undecoded len) checks decoded
  unfolding decode decoded checks
  by_checks = refl

  pub accepts : is_threshold t ≡ true → eqb (length values) (size t) ≡ true → eqb len (suc t) ≡ true → is_set (size t) set ≡ true
      → leb (suc t) (card (size t) set) ≡ true → all (size t) (judged_at values set) ≡ true
      → decode t values set len ≡ decoded_from (suc t) (find (own_points t) t 1 (λ i k. get_or values i 0) set)
  unfolding decoded checks
  accepts a b c d e f =
      by_checks
      ∙ rw (a, b, c, d, e, f)
      (ap (λ (n : ℕ). decoded_from n (find (own_points t) t 1 (λ i k. get_or values i 0) set)) (eqb-true len (suc t) c))

  -- ---- the same, by what the code finds out, each check after those before it passed

  pub refuses_1 : is_threshold t ≡ false → decode t values set len ≡ undecoded len 1
  unfolding checks
  refuses_1 a = by_checks ∙ rw a

  module _ (a : is_threshold t ≡ true) where
    pub refuses_11 : (length values ≡ size t → ⊥) → decode t values set len ≡ undecoded len 11
    unfolding checks
    refuses_11 h = by_checks ∙ rw (a, ne_eqb (length values) (size t) h)

    module _ (b : length values ≡ size t) where
      n_values : eqb (length values) (size t) ≡ true
      n_values = eq-eqb (length values) (size t) b

      pub refuses_19 : (len ≡ t + 1 → ⊥) → decode t values set len ≡ undecoded len 19
      unfolding checks
      refuses_19 h = by_checks ∙ rw (a, n_values, ne_eqb len (suc t) (λ e. h (e ∙ sym (add-one t))))

      module _ (c : len ≡ t + 1) where
        room : eqb len (suc t) ≡ true
        room = eq-eqb len (suc t) (c ∙ add-one t)

        pub refuses_12 : is_set (size t) set ≡ false → decode t values set len ≡ undecoded len 12
        unfolding checks
        refuses_12 h = by_checks ∙ rw (a, n_values, room, h)

        module _ (proper : is_set (size t) set ≡ true) where
          members : card 32 set ≡ card (size t) set
          members = card_32 t set (within_high 1 15 t a) (ltb-true set (2 ^ size t) proper)

          pub refuses_17 : card 32 set ≤ t → decode t values set len ≡ undecoded len 17
          unfolding checks
          refuses_17 h =
              let few : leb (suc t) (card (size t) set) ≡ false = sym (ap (leb (suc t)) members) ∙ lt-leb (suc t) (card 32 set) (suc-le-suc h) in
              by_checks ∙ rw (a, n_values, room, proper, few)

          module _ (e : t < card 32 set) where
            enough : leb (suc t) (card (size t) set) ≡ true
            enough = sym (ap (leb (suc t)) members) ∙ le-leb (suc t) (card 32 set) e

            pub refuses_18 : all (length values) (judged_at values set) ≡ false → decode t values set len ≡ undecoded len 18
            unfolding checks
            refuses_18 h =
                let word : all (size t) (judged_at values set) ≡ false = sym (ap (λ (n : ℕ). all n (judged_at values set)) b) ∙ h in
                by_checks ∙ rw (a, n_values, room, proper, enough, word)

            pub accepted : all (length values) (judged_at values set) ≡ true → Accepted t values set len
            accepted h =
                record {
                  small = within_high 1 15 t a;
                  as_many = b;
                  fits = c ∙ add-one t;
                  proper = ltb-true set (2 ^ size t) proper;
                  answer = accepts a n_values room proper enough (sym (ap (λ (n : ℕ). all n (judged_at values set)) b) ∙ h);
                }

pub ruleset refusals = (refuses_1, refuses_11, refuses_19, refuses_12, refuses_17, refuses_18, accepted)
