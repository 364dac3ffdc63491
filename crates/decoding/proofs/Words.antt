-- One word of d, and the d words together: where one word alone has no polynomial there are none for all, and else the polynomials of each word alone
-- are the only candidates.
-- Assumes nothing.
use mathlib.Core.Path.{◌≡◌, sym, ap, ◌∙◌}
use mathlib.Core.Logic.{inl, inr}
use mathlib.Core.Bool.{Bool, cond}
use mathlib.Core.Option.{none, some}
use mathlib.Core.List.{List, [], ◌∷◌}
use Prim.Native.Nat.{ℕ, ◌<◌, zero-le, suc-le-suc}
use native.Mathlib.Nat.{le_trans, le_of_eq, not-le_of_lt}
use lib.Dec.{leb, eqb}
use lib.ListN.{length, get_or}
use borrow.Author.Tests.{leb-true, leb-false, eq-eqb}
use Rattle.lists.specs.Tabulate.{tab}
use Rattle.lists.proofs.Bools.{test, and_intro}
use Rattle.lists.proofs.Tabulate.{all_intro}
use Rattle.lists.proofs.Count.{count_mono}
use Rattle.field.proofs.Congruence.{◌≈◌}
use Rattle.polynomial.specs.Polynomial.{eval, value}
use Rattle.polynomial.proofs.Roots.{Distinct}
use Rattle.members.specs.Members.{size, card}
use Rattle.decoding.specs.Decoding.{need, agreeing, Fits, nth, find}
use Rattle.decoding.proofs.Unique.{agrees, agrees_member, agrees_word, card-agreeing, agreeing_same, fits_same}
use Rattle.decoding.proofs.Search.{Found, find-found, find_none, none_fits, find_is}

-- the words at place k alone
abbrev pub word_at : (ℕ → ℕ → ℕ) → ℕ → ℕ → ℕ → ℕ
word_at y k = λ i j. y i k

-- polynomials that fit d words fit each
pub fits_word : (xs : List ℕ) (t d : ℕ) (y : ℕ → ℕ → ℕ) (set : ℕ) (f : ℕ → List ℕ) → Fits xs t d y set f → (k : ℕ) → k < d → Fits xs t 1 (word_at y k) set (λ j. f k)
fits_word xs t d y set f F k h =
    record {
      degree = λ j l. F.degree k h;
      enough =
          le_trans F.enough
          (le_trans (le_of_eq (card-agreeing xs t d y set f))
          (le_trans
          (count_mono (size t) (agrees xs d y set f) (agrees xs 1 (word_at y k) set (λ j. f k))
          (λ i l e. and_intro (agrees_member xs d y set f i e) (all_intro 1 (λ j. eqb (value (f k) (get_or xs i 0)) (y i k)) (λ j m. eq-eqb _ _ (agrees_word xs d y set f i e k h)))))
          (le_of_eq (sym (card-agreeing xs t 1 (word_at y k) set (λ j. f k))))));
    }

module _ (xs : List ℕ) (distinct : Distinct xs) (t : ℕ) (long : length xs ≡ size t) (d : ℕ) (y : ℕ → ℕ → ℕ) (set : ℕ) where
  -- a word that has no polynomial
  pub no_word : (k : ℕ) → k < d → find xs t 1 (word_at y k) set ≡ none → find xs t d y set ≡ none
  no_word k h e = none_fits xs distinct t long d y set (λ f F. find_none xs distinct t long 1 (word_at y k) set e (λ j. f k) (fits_word xs t d y set f F k h))

  -- each word has its polynomial
  module _ (g : ℕ → List ℕ) (each : (k : ℕ) → k < d → find xs t 1 (word_at y k) set ≡ some (g k ∷ [])) where
    alone : (k : ℕ) → k < d → Found xs t 1 (word_at y k) set (g k ∷ [])
    alone k h = find-found xs t 1 (word_at y k) set (g k ∷ []) (each k h)

    -- any that fit all words have the same values as these
    pub only_candidates : (f : ℕ → List ℕ) → Fits xs t d y set f → (k : ℕ) → k < d → (z : ℕ) → eval (f k) z ≈ eval (g k) z
    only_candidates f F k h z =
        fits_same xs distinct t long 1 (word_at y k) set (λ j. f k) (nth (g k ∷ [])) (fits_word xs t d y set f F k h) (alone k h).fits 0 (suc-le-suc zero-le) z

    pub by_words_lem : find xs t d y set ≡ cond (leb (need t (card (size t) set)) (card (size t) (agreeing xs t d y set g))) (some (tab d g)) none
    by_words_lem =
        elim (test (leb (need t (card (size t) set)) (card (size t) (agreeing xs t d y set g)))) [
          | inl e ↦
              find_is xs distinct t long d y set g
              (record { degree = λ k h. le_of_eq ((alone k h).lengths 0 (suc-le-suc zero-le)); enough = leb-true _ _ e })
              (λ k h. (alone k h).lengths 0 (suc-le-suc zero-le))
              (λ k h. (alone k h).words 0 (suc-le-suc zero-le))
              ∙ sym (ap (λ (b : Bool). cond b (some (tab d g)) none) e)
          | inr e ↦
              none_fits xs distinct t long d y set
              (λ f F. not-le_of_lt (leb-false _ _ e) (le_trans F.enough (le_of_eq (ap (card (size t)) (agreeing_same xs t d y set f g (only_candidates f F))))))
              ∙ sym (ap (λ (b : Bool). cond b (some (tab d g)) none) e)
        ]
