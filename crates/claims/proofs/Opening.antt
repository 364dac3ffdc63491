-- What opening answers, for any distinct points: 16 exactly where nothing fits, and else the only answer.
-- Assumes nothing.
use mathlib.Core.Path.{◌≡◌, refl, sym, subst}
use mathlib.Core.Logic.{inl, inr}
use mathlib.Core.Option.{Option, none, some}
use mathlib.Core.List.{List}
use Prim.Native.Nat.{ℕ, ◌<◌}
use native.Mathlib.Omega.{arith}
use lib.ListN.{length, get_or}
use Rattle.lists.proofs.Tabulate.{tab_ext, tab-get_or}
use Rattle.polynomial.specs.Polynomial.{value}
use Rattle.polynomial.proofs.Roots.{distinct_tab, Distinct}
use Rattle.members.specs.Members.{size}
use Rattle.decoding.specs.Decoding.{agreeing, Fits, nth, find}
use Rattle.decoding.proofs.Search.{find-found, find_none}
use Rattle.decoding.proofs.Unique.{fits_agreeing, fits_value}
use Rattle.reconstruction.specs.Reconstruction.{unopened, at_zero_of, opened_from}
use Rattle.claims.specs.General.{Points, Answers, Opening}

pub points_distinct : {n : ℕ} {xs : List ℕ} → Points n xs → Distinct xs
points_distinct {n} {xs} p =
    subst Distinct (tab-get_or xs 0)
    (distinct_tab (length xs) (λ i. get_or xs i 0) (λ i j h k e. p.apart i j (subst (λ (m : ℕ). i < m) p.long h) (subst (λ (m : ℕ). j < m) p.long k) e.same))

module _ (xs : List ℕ) (distinct : Distinct xs) (t : ℕ) (long : length xs ≡ size t) (d : ℕ) (y : ℕ → ℕ → ℕ) (s : ℕ) where
  same_zero : (f g : ℕ → List ℕ) → Fits xs t d y s f → Fits xs t d y s g → at_zero_of d f ≡ at_zero_of d g
  unfolding at_zero_of
  same_zero f g F G = tab_ext d (λ k. value (f k) 0) (λ k. value (g k) 0) (λ k h. fits_value xs distinct t long d y s f g F G k h 0)

  both : (f g : ℕ → List ℕ) → Fits xs t d y s f → Fits xs t d y s g → (at_zero_of d f ≡ at_zero_of d g) × (agreeing xs t d y s f ≡ agreeing xs t d y s g)
  both f g F G = (same_zero f g F G, fits_agreeing xs distinct t long d y s f g F G)

  16_is_not_0 : ◌≡◌ {A = ℕ} 16 0 → ⊥
  16_is_not_0 e = omega arith

  from : (o : Option (List (List ℕ))) → find xs t d y s ≡ o → Answers xs t d y s (opened_from xs t d y s o)
  unfolding opened_from unopened
  from none e =
      record {
        survived = refl;
        opens_or_16 = inr refl;
        refuses_only = λ h. find_none xs distinct t long d y s e;
        refuses_if = λ h. refl;
        opens_only = λ h. absurd (16_is_not_0 h);
        only = both;
        answers = λ f F. absurd (find_none xs distinct t long d y s e f F);
      }
  from (some fs) e =
      let F₀ : Fits xs t d y s (nth fs) = (find-found xs t d y s fs e).fits in
      record {
        survived = refl;
        opens_or_16 = inl refl;
        refuses_only = λ h. absurd (16_is_not_0 (sym h));
        refuses_if = λ h. absurd (h (nth fs) F₀);
        opens_only = λ h. (nth fs, F₀);
        only = both;
        answers = λ f F. (refl, (both (nth fs) f F₀ F).0, (both (nth fs) f F₀ F).1);
      }

  pub opened_answers : Answers xs t d y s (opened_from xs t d y s (find xs t d y s))
  opened_answers = from (find xs t d y s) refl

pub opening : Opening
unfolding Opening
opening xs t d y s p = opened_answers xs (points_distinct p) t p.long d y s
