-- Decoding looks at the words of members alone; and words that too few members meet so far have no common polynomials.
-- Assumes nothing.
use mathlib.Core.Path.{◌≡◌, refl, sym, ap, ◌∙◌}
use mathlib.Core.Bool.{Bool, ◌&&◌}
use mathlib.Core.Option.{Option, none, some}
use mathlib.Core.List.{List, [], ◌∷◌}
use Prim.Native.Nat.{ℕ, ◌≤◌, ◌<◌, zero-le, suc-le-suc}
use native.Mathlib.Nat.{le_trans, le_of_eq, lt_of_lt_of_le, not-le_of_lt}
use lib.Dec.{eqb}
use lib.ListN.{length, get_or}
use borrow.Author.Tests.{eq-eqb}
use Rattle.lists.specs.Tabulate.{tab, all, count}
use Rattle.lists.proofs.Bools.{and_intro}
use Rattle.lists.proofs.Count.{count_mono}
use Rattle.lists.proofs.Tabulate.{all_intro, all_ext, tab-get_or}
use Rattle.polynomial.specs.Polynomial.{value}
use Rattle.polynomial.proofs.Evaluation.{value-eq}
use Rattle.polynomial.proofs.Roots.{Distinct}
use Rattle.members.specs.Members.{size, has, card}
use Rattle.members.proofs.Masks.{set_of_ext}
use Rattle.decoding.specs.Decoding.{need, agreeing, Fits, nth, find}
use Rattle.decoding.proofs.Search.{Found, find-found, find_none, none_fits, find_is}
use Rattle.decoding.proofs.Unique.{agrees, agrees_member, agrees_word, card-agreeing, fits_same}
use Rattle.decoding.proofs.Words.{word_at, fits_word}

fits_ext : (xs : List ℕ) (t d set : ℕ) (y z : ℕ → ℕ → ℕ) → ((i : ℕ) → i < size t → (k : ℕ) → k < d → y i k ≡ z i k) → (f : ℕ → List ℕ)
    → Fits xs t d z set f → Fits xs t d y set f
unfolding agreeing
fits_ext xs t d set y z same f F =
    record {
      degree = F.degree;
      enough =
          le_trans F.enough
          (le_of_eq
          (ap (card (size t))
          (set_of_ext (size t) (agrees xs d z set f) (agrees xs d y set f)
          (λ i h. ap (λ (b : Bool). has set i && b)
          (all_ext d (λ k. eqb (value (f k) (get_or xs i 0)) (z i k)) (λ k. eqb (value (f k) (get_or xs i 0)) (y i k))
          (λ k l. ap (eqb (value (f k) (get_or xs i 0))) (sym (same i h k l))))))));
    }

module _ (xs : List ℕ) (distinct : Distinct xs) (t : ℕ) (long : length xs ≡ size t) (d set : ℕ) where
  -- the same words at every member: the same polynomials
  pub find_ext : (y z : ℕ → ℕ → ℕ) → ((i : ℕ) → i < size t → (k : ℕ) → k < d → y i k ≡ z i k) → find xs t d y set ≡ find xs t d z set
  find_ext y z same = at (find xs t d z set) refl
    where
      at : (o : Option (List (List ℕ))) → find xs t d z set ≡ o → find xs t d y set ≡ o
      at none e =
          none_fits xs distinct t long d y set (λ f F. find_none xs distinct t long d z set e f (fits_ext xs t d set z y (λ i h k l. sym (same i h k l)) f F))
      at (some fs) e =
          let found : Found xs t d z set fs = find-found xs t d z set fs e in
          find_is xs distinct t long d y set (nth fs) (fits_ext xs t d set y z same (nth fs) found.fits) found.lengths found.words
          ∙ ap some (ap (λ (n : ℕ). tab n (nth fs)) (sym found.places) ∙ tab-get_or fs [])

  -- the first k words have their polynomials, and too few members meet all of these
  pub too_few : (y : ℕ → ℕ → ℕ) (g : ℕ → List ℕ) (k : ℕ) → k ≤ d → ((j : ℕ) → j < k → find xs t 1 (word_at y j) set ≡ some (g j ∷ []))
      → count (size t) (λ i. has set i && all k (λ j. eqb (value (g j) (get_or xs i 0)) (y i j))) < need t (card (size t) set) → find xs t d y set ≡ none
  too_few y g k h each few =
      none_fits xs distinct t long d y set
      (λ f F. not-le_of_lt few
      (le_trans F.enough
      (le_trans (le_of_eq (card-agreeing xs t d y set f))
      (count_mono (size t) (agrees xs d y set f) (λ i. has set i && all k (λ j. eqb (value (g j) (get_or xs i 0)) (y i j)))
      (λ i l e. and_intro (agrees_member xs d y set f i e)
      (all_intro k (λ j. eqb (value (g j) (get_or xs i 0)) (y i j))
      (λ j m. eq-eqb (value (g j) (get_or xs i 0)) (y i j)
      (value-eq (g j) (f j) (get_or xs i 0) (get_or xs i 0)
      (fits_same xs distinct t long 1 (word_at y j) set (nth (g j ∷ [])) (λ n. f j) (find-found xs t 1 (word_at y j) set (g j ∷ []) (each j m)).fits
      (fits_word xs t d y set f F j (lt_of_lt_of_le m h)) 0 (suc-le-suc zero-le) (get_or xs i 0))
      ∙ agrees_word xs d y set f i e j (lt_of_lt_of_le m h)))))))))
