-- There is never more than one: polynomials that fit the same words have the same values everywhere, since two sets of enough members share t + 1.
-- For any distinct points.
-- Assumes nothing.
use mathlib.Core.Path.{◌≡◌, sym, ap, ◌∙◌}
use mathlib.Core.Bool.{Bool, true, ◌&&◌}
use mathlib.Core.List.{List}
use Prim.Native.Nat.{ℕ, suc, ◌+◌, ◌≤◌, ◌<◌, ◌/◌}
use native.Mathlib.Nat.{le_trans, le_of_eq}
use native.Mathlib.Omega.{arith}
use lib.Dec.{eqb}
use lib.ListN.{length, get_or, length-map}
use borrow.Author.Tests.{eqb-true}
use Rattle.lists.specs.Tabulate.{all, count}
use Rattle.lists.proofs.Bools.{and_left, and_right}
use Rattle.lists.proofs.Every.{every_map}
use Rattle.lists.proofs.Tabulate.{all_elim, all_ext}
use Rattle.lists.proofs.Common.{count-common}
use Rattle.lists.proofs.Choose.{every_mapped}
use Rattle.field.proofs.Congruence.{◌≈◌, same_sym, same_trans, same_eq}
use Rattle.polynomial.specs.Polynomial.{eval, value}
use Rattle.polynomial.proofs.Evaluation.{value_same, value-eq}
use Rattle.polynomial.proofs.Roots.{Distinct, agree}
use Rattle.members.specs.Members.{size, has, card}
use Rattle.members.proofs.Masks.{card-set_of, set_of_ext}
use Rattle.members.proofs.Listed.{passing, passing_sub, passing_every, length_passing}
use Rattle.decoding.specs.Decoding.{surplus, need, agreeing, Fits}
use Rattle.locator.proofs.Points.{points_of, distinct_points}

-- two sets of enough members, of a set of s, share t + 1
pub need_twice : (t s : ℕ) → suc t + s ≤ need t s + need t s
unfolding need surplus
need_twice t s = omega arith

pub need_least : (t s : ℕ) → suc t ≤ need t s
unfolding need
need_least t s = omega arith

-- all but half the surplus, rounded down, are enough
pub need_most : (t s agree others : ℕ) → suc t ≤ s → s ≡ agree + others → others ≤ surplus t s / 2 → need t s ≤ agree
unfolding need surplus
need_most t s agree others h e l = omega arith

-- member i of the set agrees
abbrev pub agrees : List ℕ → ℕ → (ℕ → ℕ → ℕ) → ℕ → (ℕ → List ℕ) → ℕ → Bool
agrees xs d y set f i = has set i && all d (λ k. eqb (value (f k) (get_or xs i 0)) (y i k))

module _ (xs : List ℕ) (d : ℕ) (y : ℕ → ℕ → ℕ) (set : ℕ) where
  pub agrees_member : (f : ℕ → List ℕ) (i : ℕ) → agrees xs d y set f i ≡ true → has set i ≡ true
  agrees_member f i e = and_left (has set i) (all d (λ k. eqb (value (f k) (get_or xs i 0)) (y i k))) e

  pub agrees_word : (f : ℕ → List ℕ) (i : ℕ) → agrees xs d y set f i ≡ true → (k : ℕ) → k < d → value (f k) (get_or xs i 0) ≡ y i k
  agrees_word f i e k h =
      eqb-true (value (f k) (get_or xs i 0)) (y i k)
      (all_elim d (λ j. eqb (value (f j) (get_or xs i 0)) (y i j)) (and_right (has set i) (all d (λ j. eqb (value (f j) (get_or xs i 0)) (y i j))) e) k h)

  pub agrees_meets : (f : ℕ → List ℕ) (i : ℕ) → agrees xs d y set f i ≡ true → (k : ℕ) → k < d → eval (f k) (get_or xs i 0) ≈ y i k
  agrees_meets f i e k h = same_trans (same_sym (value_same (f k) (get_or xs i 0))) (same_eq (agrees_word f i e k h))

module _ (xs : List ℕ) (t d : ℕ) (y : ℕ → ℕ → ℕ) (set : ℕ) where
  pub card-agreeing : (f : ℕ → List ℕ) → card (size t) (agreeing xs t d y set f) ≡ count (size t) (agrees xs d y set f)
  unfolding agreeing
  card-agreeing f = card-set_of (size t) (agrees xs d y set f)

  -- polynomials with the same values have the same agreeing members
  pub agreeing_same : (f g : ℕ → List ℕ) → ((k : ℕ) → k < d → (z : ℕ) → eval (f k) z ≈ eval (g k) z) → agreeing xs t d y set f ≡ agreeing xs t d y set g
  unfolding agreeing
  agreeing_same f g h =
      set_of_ext (size t) (agrees xs d y set f) (agrees xs d y set g)
      (λ i l. ap (λ (b : Bool). has set i && b)
      (all_ext d (λ k. eqb (value (f k) (get_or xs i 0)) (y i k)) (λ k. eqb (value (g k) (get_or xs i 0)) (y i k))
      (λ k m. ap (λ (v : ℕ). eqb v (y i k)) (value-eq (f k) (g k) (get_or xs i 0) (get_or xs i 0) (h k m (get_or xs i 0))))))

-- how many members agree with both
both_agree : (xs : List ℕ) (t d : ℕ) (y : ℕ → ℕ → ℕ) (set : ℕ) (f g : ℕ → List ℕ) → Fits xs t d y set f → Fits xs t d y set g
    → suc t ≤ count (size t) (λ i. agrees xs d y set f i && agrees xs d y set g i)
unfolding card
both_agree xs t d y set f g F G =
    shared (count (size t) (has set)) (count (size t) (λ i. agrees xs d y set f i && agrees xs d y set g i)) (need_twice t (card (size t) set))
    (le_trans F.enough (le_of_eq (card-agreeing xs t d y set f))) (le_trans G.enough (le_of_eq (card-agreeing xs t d y set g)))
    (count-common (size t) (agrees xs d y set f) (agrees xs d y set g) (has set) (λ i h. agrees_member xs d y set f i) (λ i h. agrees_member xs d y set g i))
  where
    shared : (s c : ℕ) {m a b : ℕ} → suc t + s ≤ m + m → m ≤ a → m ≤ b → a + b ≤ s + c → suc t ≤ c
    shared s c h ha hb k = omega arith

module _ (xs : List ℕ) (distinct : Distinct xs) (t : ℕ) (long : length xs ≡ size t) (d : ℕ) (y : ℕ → ℕ → ℕ) (set : ℕ) where
  pub fits_same : (f g : ℕ → List ℕ) → Fits xs t d y set f → Fits xs t d y set g → (k : ℕ) → k < d → (z : ℕ) → eval (f k) z ≈ eval (g k) z
  fits_same f g F G k h z =
      let p : ℕ → Bool = λ i. agrees xs d y set f i && agrees xs d y set g i in
      let ms : List ℕ = passing (size t) p in
      let l : suc t ≤ length (points_of xs ms) =
      le_trans (both_agree xs t d y set f g F G) (le_of_eq (sym (length-map ms (λ i. get_or xs i 0) ∙ length_passing (size t) p))) in
      agree (f k) (g k) (points_of xs ms) (le_trans (F.degree k h) l) (le_trans (G.degree k h) l)
      (distinct_points xs (size t) long distinct (passing_sub (size t) p))
      (every_mapped (λ i. get_or xs i 0)
      (every_map
      (λ i e. same_trans (agrees_meets xs d y set f i (and_left (agrees xs d y set f i) (agrees xs d y set g i) e) k h)
      (same_sym (agrees_meets xs d y set g i (and_right (agrees xs d y set f i) (agrees xs d y set g i) e) k h)))
      (passing_every (size t) p)))
      z

  pub fits_agreeing : (f g : ℕ → List ℕ) → Fits xs t d y set f → Fits xs t d y set g → agreeing xs t d y set f ≡ agreeing xs t d y set g
  fits_agreeing f g F G = agreeing_same xs t d y set f g (fits_same f g F G)

  pub fits_value : (f g : ℕ → List ℕ) → Fits xs t d y set f → Fits xs t d y set g → (k : ℕ) → k < d → (z : ℕ) → value (f k) z ≡ value (g k) z
  fits_value f g F G k h z = value-eq (f k) (g k) z z (fits_same f g F G k h z)
