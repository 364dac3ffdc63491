-- Interpolation in place: divided differences from the front, coefficients from the back.
-- Assumes nothing.
use mathlib.Core.Path.{◌≡◌, refl, sym, ap, ap₂, ◌∙◌}
use mathlib.Core.List.{List, [], ◌∷◌, ◌++◌, append_assoc, append-nil}
use Prim.Native.Nat.{ℕ, zero, suc, ◌+◌, ◌-◌, ◌≤◌, ◌<◌}
use native.Mathlib.Nat.{le_refl, not-suc-le-zero}
use native.Mathlib.Numerals.{add-one, sub-one}
use native.Mathlib.Omega.{arith}
use lib.ListN.{length, get_or, take, drop, length-append, length-drop, drop_of_length-le}
use lib.Seq.{take_at, drop_at, take_all, take-suc, drop-cons, length-take-le, drop-length, get_or_at}
use Rattle.lists.proofs.InPlace.{left-cons}
use borrow.Author.Tests.{eq-eqb, ne_eqb}
use Rattle.polynomial.specs.Polynomial.{linear, slopes, interpolate, interpolated}
use Rattle.polynomial.specs.Internal.Newton.{slopes_from, divided, linear_from, expanded}
use Rattle.polynomial.proofs.Interpolation.{length-slopes}

-- coefficients from divided differences
pub interpolate_is : (xs ys : List ℕ) → interpolate xs ys ≡ expanded xs (divided xs ys)
unfolding interpolate divided expanded
interpolate_is [] ys = refl
interpolate_is (x ∷ xs) [] = refl
interpolate_is (x ∷ xs) (y ∷ ys) = ap (linear x y) (interpolate_is xs (slopes x y xs ys))

-- the turn of the loop from the front: what is done, and then the divided differences of what is left
pub record Divided (xs : List ℕ) (n : ℕ) (whole ys : List ℕ) (i : ℕ) : Type 0 where
  pub inside : i ≤ length xs
  pub long : length ys ≡ length xs
  pub kept : length ys ≡ n
  pub so_far : take i ys ++ divided (drop i xs) (drop i ys) ≡ whole

length_from : (xs ys : List ℕ) (i : ℕ) → length ys ≡ length xs → i < length xs → length (slopes_from xs ys i) ≡ length ys
unfolding slopes_from
length_from xs ys i e h =
    length-append (take (i + 1) ys) (slopes (get_or xs i 0) (get_or ys i 0) (drop (i + 1) xs) (drop (i + 1) ys))
    ∙ ap₂ ◌+◌ (length-take-le (i + 1) ys (omega arith))
    (length-slopes (get_or xs i 0) (get_or ys i 0) (drop (i + 1) xs) (drop (i + 1) ys) (simp length-drop (omega arith)) ∙ length-drop (i + 1) xs)
    ∙ omega arith

divided_step : (xs ys : List ℕ) (i : ℕ) → i < length xs → i < length ys
    → take (i + 1) (slopes_from xs ys i) ++ divided (drop (i + 1) xs) (drop (i + 1) (slopes_from xs ys i)) ≡ take i ys ++ divided (drop i xs) (drop i ys)
unfolding slopes_from divided
divided_step xs ys i hx hy =
    let y : ℕ = get_or ys i 0 in
    let rest : List ℕ = slopes (get_or xs i 0) y (drop (i + 1) xs) (drop (i + 1) ys) in
    let len : length (take (i + 1) ys) ≡ i + 1 = length-take-le (i + 1) ys (omega arith) in
    ap₂ (λ (a b : List ℕ). a ++ divided (drop (i + 1) xs) b) (take_at (take (i + 1) ys) rest (i + 1) len) (drop_at (take (i + 1) ys) rest (i + 1) len)
    ∙ ap (λ (a : List ℕ). a ++ divided (drop (i + 1) xs) rest) (ap (λ (n : ℕ). take n ys) (add-one i) ∙ take-suc ys i 0 hy)
    ∙ append_assoc (take i ys) (y ∷ []) (divided (drop (i + 1) xs) rest)
    ∙ ap₂ (λ (a b : List ℕ). take i ys ++ divided a b) (sym (left-cons xs i 0 hx)) (sym (left-cons ys i 0 hy))

pub divided_next : (xs : List ℕ) (n : ℕ) (whole ys zs : List ℕ) (i : ℕ) → i < length xs → Divided xs n whole ys i → zs ≡ slopes_from xs ys i → Divided xs n whole zs (i + 1)
divided_next xs n whole ys zs i h t e =
    record {
      inside = omega arith;
      long = ap length e ∙ length_from xs ys i t.long h ∙ t.long;
      kept = ap length e ∙ length_from xs ys i t.long h ∙ t.kept;
      so_far =
          ap (λ (l : List ℕ). take (i + 1) l ++ divided (drop (i + 1) xs) (drop (i + 1) l)) e
          ∙ divided_step xs ys i h (omega (arith, t.long))
          ∙ t.so_far;
    }

pub divided_last : (xs : List ℕ) (n : ℕ) (whole ys : List ℕ) (i : ℕ) → length xs ≤ i → Divided xs n whole ys i → ys ≡ whole
unfolding divided
divided_last xs n whole ys i h t =
    sym
    (ap₂ (λ (a p : List ℕ). a ++ divided p (drop i ys)) (take_all i ys (omega (arith, t.long))) (drop_of_length-le xs {i = i} h) ∙ append-nil ys)
    ∙ t.so_far

-- the turn of the loop from the back: divided differences up to i, and then the coefficients of the rest
pub record Expanded (xs cs words : List ℕ) (i : ℕ) : Type 0 where
  pub inside : i ≤ length xs
  pub long : length cs ≡ length xs
  pub kept : length words ≡ length cs
  pub so_far : words ≡ take i cs ++ expanded (drop i xs) (drop i cs)

pub expanded-first : (xs cs : List ℕ) → length cs ≡ length xs → Expanded xs cs cs (length xs)
unfolding expanded
expanded-first xs cs e =
    record {
      inside = le_refl (length xs);
      long = e;
      kept = refl;
      so_far =
          sym
          (ap₂ (λ (a p : List ℕ). a ++ expanded p (drop (length xs) cs)) (take_all (length xs) cs (omega arith)) (drop-length xs) ∙ append-nil cs);
    }

expanded_step : (xs cs words : List ℕ) (k : ℕ) → k < length xs → k < length cs → words ≡ take (suc k) cs ++ expanded (drop (suc k) xs) (drop (suc k) cs)
    → linear_from (get_or xs k 0) words k ≡ take k cs ++ expanded (drop k xs) (drop k cs)
unfolding linear_from expanded
expanded_step xs cs words k hx hc e =
    let x : ℕ = get_or xs k 0 in
    let c : ℕ = get_or cs k 0 in
    let rest : List ℕ = expanded (drop (suc k) xs) (drop (suc k) cs) in
    let len : length (take k cs) ≡ k = length-take-le k cs (omega arith) in
    let e' : words ≡ take k cs ++ c ∷ rest = e ∙ ap (λ (a : List ℕ). a ++ rest) (take-suc cs k 0 hc) ∙ append_assoc (take k cs) (c ∷ []) rest in
    ap₂ (λ (a b : List ℕ). a ++ b) (ap (take k) e' ∙ take_at (take k cs) (c ∷ rest) k len)
    (ap₂ (linear x) (ap (λ (l : List ℕ). get_or l k 0) e' ∙ get_or_at (take k cs) c rest 0 k len)
    (ap₂ drop (add-one k) e ∙ drop_at (take (suc k) cs) rest (suc k) (length-take-le (suc k) cs hc)))
    ∙ ap₂ (λ (a b : List ℕ). take k cs ++ expanded a b) (sym (drop-cons xs k 0 hx)) (sym (drop-cons cs k 0 hc))

pub expanded_next : (xs cs words zs : List ℕ) (i : ℕ) → 0 < i → Expanded xs cs words i → length zs ≡ length words → zs ≡ linear_from (get_or xs (i - 1) 0) words (i - 1)
    → Expanded xs cs zs (i - 1)
expanded_next xs cs words zs zero h t l e = absurd (not-suc-le-zero h)
expanded_next xs cs words zs (suc k) h t l e =
    rw sub-one
    (record {
      inside = omega arith;
      long = t.long;
      kept = l ∙ t.kept;
      so_far = rw sub-one at e ∙ expanded_step xs cs words k t.inside (omega (arith, t.long)) t.so_far;
    })

pub expanded_last : (xs cs words : List ℕ) (i : ℕ) → i ≤ 0 → Expanded xs cs words i → words ≡ expanded xs cs
expanded_last xs cs words zero h t = t.so_far
expanded_last xs cs words (suc i) h t = absurd (not-suc-le-zero h)

pub interpolated_no : (xs ys : List ℕ) → (length xs ≡ length ys → ⊥) → interpolated xs ys ≡ ys
unfolding interpolated
interpolated_no xs ys h = rw (ne_eqb (length xs) (length ys) h)

pub interpolated_yes : (xs ys : List ℕ) → length xs ≡ length ys → interpolated xs ys ≡ interpolate xs ys
unfolding interpolated
interpolated_yes xs ys h = rw (eq-eqb (length xs) (length ys) h)

-- as the code makes it
pub interpolated_made : (xs ys differences coefficients : List ℕ) → length xs ≡ length ys → differences ≡ divided xs ys → coefficients ≡ expanded xs differences
    → coefficients ≡ interpolated xs ys
interpolated_made xs ys differences coefficients e d c = c ∙ ap (expanded xs) d ∙ sym (interpolated_yes xs ys e ∙ interpolate_is xs ys)

-- for the code
pub ruleset expanding = (expanded-first, expanded_next, expanded_last)

pub ruleset interpolating = (interpolated_no, interpolated_made)
