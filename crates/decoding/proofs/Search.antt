-- The search finds polynomials exactly if some fit, and then the only ones. One word of d, and the d words together.
-- Assumes nothing.
use mathlib.Core.Path.{◌≡◌, refl, sym, ap, ◌∙◌, subst}
use mathlib.Core.Bool.{Bool, true}
use mathlib.Core.Option.{Option, none, some, none-ne-some}
use mathlib.Core.List.Sublistᴰ
use mathlib.Core.List.{List, [], ◌∷◌, map, Memᴰ, Sublistᴰ}
use Prim.Native.Nat.{ℕ, suc, ◌≤◌, ◌<◌}
use native.Mathlib.Nat.{le_trans, le_of_eq}
use native.Mathlib.Omega.{arith}
use lib.Dec.{leb}
use lib.ListN.{length, get_or, take, length-map}
use lib.Seq.{length-take-le}
use borrow.Author.Tests.{leb-true, le-leb}
use Rattle.lists.specs.Tabulate.{tab, choose}
use Rattle.lists.proofs.Every.{Every, none as every_none, more, every_map, every_both}
use Rattle.lists.proofs.Tabulate.{length-tab, get_or-tab, tab_ext, tab-get_or}
use Rattle.lists.proofs.Choose.{every_sub, every_mapped, take-sub, sub-chosen, chosen-length, first_passes, first_member, first_finds}
use Rattle.field.specs.Field.{prime}
use Rattle.field.proofs.Congruence.{◌≈◌, same_sym, same_trans, same_eq}
use Rattle.polynomial.specs.Polynomial.{eval, interpolate}
use Rattle.polynomial.proofs.Roots.{distinct_sub, Distinct, agree, agree_equal}
use Rattle.polynomial.proofs.Interpolation.{meets, meets_every, length-interpolate, interpolate_words}
use Rattle.members.specs.Members.{size, card, members_of}
use Rattle.members.proofs.Listed.{passing, passing_sub, passing_every, length_passing, passing_members}
use Rattle.decoding.specs.Decoding.{need, agreeing, Fits, nth, through, find}
use Rattle.locator.proofs.Points.{points_of, distinct_points}
use Rattle.decoding.proofs.Unique.{need_least, agrees, agrees_member, agrees_meets, card-agreeing, agreeing_same, fits_same}

-- what a search that finds fs has found
pub record Found (xs : List ℕ) (t d : ℕ) (y : ℕ → ℕ → ℕ) (set : ℕ) (fs : List (List ℕ)) : Type 0 where
  pub fits : Fits xs t d y set (nth fs)
  pub places : length fs ≡ d
  pub lengths : (k : ℕ) → k < d → length (nth fs k) ≡ suc t
  pub words : (k : ℕ) → k < d → Every (λ c. c < prime) (nth fs k)

-- the polynomial at place k through the members ms
abbrev through_at : List ℕ → (ℕ → ℕ → ℕ) → List ℕ → ℕ → List ℕ
through_at xs y ms k = interpolate (points_of xs ms) (map (λ i. y i k) ms)

module _ (xs : List ℕ) (d : ℕ) (y : ℕ → ℕ → ℕ) (ms : List ℕ) where
  nth-through : (k : ℕ) → k < d → nth (through xs d y ms) k ≡ through_at xs y ms k
  unfolding through
  nth-through k h = get_or-tab d (through_at xs y ms) k [] h

pub length-interpolated : (xs : List ℕ) (y : ℕ → ℕ) (ms : List ℕ) → length (interpolate (points_of xs ms) (map y ms)) ≡ length ms
length-interpolated xs y ms =
    length-interpolate (points_of xs ms) (map y ms) (length-map ms y ∙ sym (length-map ms (λ i. get_or xs i 0))) ∙ length-map ms (λ i. get_or xs i 0)

-- the test of the search
abbrev is_fit : List ℕ → ℕ → ℕ → (ℕ → ℕ → ℕ) → ℕ → List (List ℕ) → Bool
is_fit xs t d y set fs = leb (need t (card (size t) set)) (card (size t) (agreeing xs t d y set (nth fs)))

pub find-found : (xs : List ℕ) (t d : ℕ) (y : ℕ → ℕ → ℕ) (set : ℕ) (fs : List (List ℕ)) → find xs t d y set ≡ some fs → Found xs t d y set fs
unfolding find through
find-found xs t d y set fs e =
    let tries : List (List ℕ) = choose (suc t) (members_of (size t) set) in
    let r = mathlib.Core.List.Memᴰ.of_map (through xs d y) tries (first_member (is_fit xs t d y set) (map (through xs d y) tries) e) in
    let ms : List ℕ = r.0 in
    let same : (k : ℕ) → k < d → nth fs k ≡ through_at xs y ms k = λ k h. ap (λ (l : List (List ℕ)). nth l k) (sym r.2) ∙ nth-through xs d y ms k h in
    let long : (k : ℕ) → k < d → length (nth fs k) ≡ suc t =
    λ k h. ap length (same k h) ∙ length-interpolated xs (λ i. y i k) ms ∙ chosen-length (suc t) (members_of (size t) set) r.1 in
    record {
      fits = record {
        degree = λ k h. le_of_eq (long k h);
        enough = leb-true _ _ (first_passes (is_fit xs t d y set) (map (through xs d y) tries) e);
      };
      places = ap length (sym r.2) ∙ length-tab d (through_at xs y ms);
      lengths = long;
      words = λ k h. subst (Every (λ c. c < prime)) (sym (same k h)) (interpolate_words (points_of xs ms) (map (λ i. y i k) ms));
    }

-- the polynomial through members at which f has the values y, at least as many as f has coefficients, is f
pub interpolated_same : (xs : List ℕ) → Distinct xs → (n : ℕ) → length xs ≡ n → (y : ℕ → ℕ) (f ms : List ℕ) → length f ≤ length ms → Sublistᴰ ms (tab n (λ i. i))
    → Every (λ i. eval f (get_or xs i 0) ≈ y i) ms → (z : ℕ) → eval (interpolate (points_of xs ms) (map y ms)) z ≈ eval f z
interpolated_same xs distinct n long y f ms deg s e z =
    let g : List ℕ = interpolate (points_of xs ms) (map y ms) in
    let l : length ms ≡ length (points_of xs ms) = sym (length-map ms (λ i. get_or xs i 0)) in
    let as_many : length (map y ms) ≡ length (points_of xs ms) = length-map ms y ∙ l in
    let apart : Distinct (points_of xs ms) = distinct_points xs n long distinct s in
    let met : Every (λ i. eval g (get_or xs i 0) ≈ y i) ms = meets_every g (λ i. get_or xs i 0) y ms (meets (points_of xs ms) (map y ms) as_many apart) in
    agree g f (points_of xs ms) (le_of_eq (length-interpolate (points_of xs ms) (map y ms) as_many)) (le_trans deg (le_of_eq l)) apart
    (every_mapped (λ i. get_or xs i 0) (every_both (λ i m a. same_trans m (same_sym a)) met e))
    z

module _ (xs : List ℕ) (distinct : Distinct xs) (t : ℕ) (long : length xs ≡ size t) (d : ℕ) (y : ℕ → ℕ → ℕ) (set : ℕ) where
  -- members that agree with f, at least t + 1 of them: the polynomials through these are f
  through_same : (f : ℕ → List ℕ) (ms : List ℕ) → ((k : ℕ) → k < d → length (f k) ≤ length ms) → Sublistᴰ ms (tab (size t) (λ i. i))
      → Every (λ i. agrees xs d y set f i ≡ true) ms → (k : ℕ) → k < d → (z : ℕ) → eval (nth (through xs d y ms) k) z ≈ eval (f k) z
  through_same f ms deg s e k h z =
      same_trans (same_eq (ap (λ (c : List ℕ). eval c z) (nth-through xs d y ms k h)))
      (interpolated_same xs distinct (size t) long (λ i. y i k) (f k) ms (deg k h) s (every_map (λ i a. agrees_meets xs d y set f i a k h) e) z)

  pub find_complete : (f : ℕ → List ℕ) → Fits xs t d y set f → (fs : List (List ℕ)) × (find xs t d y set ≡ some fs)
  unfolding find
  find_complete f F =
      let p : ℕ → Bool = agrees xs d y set f in
      let ms : List ℕ = take (suc t) (passing (size t) p) in
      let many : length ms ≡ suc t =
      length-take-le (suc t) (passing (size t) p)
      (le_trans (need_least t (card (size t) set)) (le_trans F.enough (le_of_eq (card-agreeing xs t d y set f ∙ sym (length_passing (size t) p))))) in
      let chosen : Memᴰ ms (choose (suc t) (members_of (size t) set)) =
      subst (λ (k : ℕ). Memᴰ ms (choose k (members_of (size t) set))) many
      (sub-chosen (Sublistᴰ.trans (take-sub (suc t) (passing (size t) p)) (passing_members (size t) set p (agrees_member xs d y set f)))) in
      let same : agreeing xs t d y set f ≡ agreeing xs t d y set (nth (through xs d y ms)) =
      sym (agreeing_same xs t d y set (nth (through xs d y ms)) f
      (through_same f ms (λ k h. le_trans (F.degree k h) (le_of_eq (sym many)))
      (Sublistᴰ.trans (take-sub (suc t) (passing (size t) p)) (passing_sub (size t) p))
      (every_sub (take-sub (suc t) (passing (size t) p)) (passing_every (size t) p)))) in
      first_finds (is_fit xs t d y set) (map (through xs d y) (choose (suc t) (members_of (size t) set))) (mathlib.Core.List.Memᴰ.map (through xs d y) chosen)
      (le-leb _ _ (le_trans F.enough (le_of_eq (ap (card (size t)) same))))

  pub find_none : find xs t d y set ≡ none → (f : ℕ → List ℕ) → Fits xs t d y set f → ⊥
  find_none e f F = let r = find_complete f F in none-ne-some r.0 (sym e ∙ r.1)

  pub none_fits : ((f : ℕ → List ℕ) → Fits xs t d y set f → ⊥) → find xs t d y set ≡ none
  none_fits h = at (find xs t d y set) refl
    where
      at : (o : Option (List (List ℕ))) → find xs t d y set ≡ o → o ≡ none
      at none e = refl
      at (some fs) e = absurd (h (nth fs) (find-found xs t d y set fs e).fits)

  -- polynomials that fit, written with t + 1 field words each, are those that the search finds
  pub find_is : (f : ℕ → List ℕ) → Fits xs t d y set f → ((k : ℕ) → k < d → length (f k) ≡ suc t) → ((k : ℕ) → k < d → Every (λ c. c < prime) (f k))
      → find xs t d y set ≡ some (tab d f)
  unfolding size
  find_is f F lf wf =
      let r = find_complete f F in
      let fs : List (List ℕ) = r.0 in
      let found : Found xs t d y set fs = find-found xs t d y set fs r.1 in
      let zs : List ℕ = take (suc t) xs in
      let l : length zs ≡ suc t = length-take-le (suc t) xs (omega arith) in
      let same : (k : ℕ) → k < d → nth fs k ≡ f k =
      λ k h. agree_equal (nth fs k) (f k) zs (found.lengths k h ∙ sym l) (lf k h ∙ sym l) (found.words k h) (wf k h)
      (distinct_sub (take-sub (suc t) xs) distinct)
      (every_at_all zs (fits_same xs distinct t long d y set (nth fs) f found.fits F k h)) in
      r.1 ∙ ap some (sym (tab-get_or fs []) ∙ ap (λ (n : ℕ). tab n (nth fs)) found.places ∙ tab_ext d (nth fs) f same)
    where
      every_at_all : {P : ℕ → Type 0} (zs : List ℕ) → ((z : ℕ) → P z) → Every P zs
      every_at_all [] h = every_none
      every_at_all (z ∷ zs) h = more (h z) (every_at_all zs h)
