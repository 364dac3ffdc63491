-- Laws of `tab` and `all`.
-- Assumes nothing.
use mathlib.Core.Path.{◌≡◌, refl, sym, ap, ap₂, ◌∙◌}
use mathlib.Core.Logic.{inl, inr}
use mathlib.Core.Bool.{Bool, true, false, ◌&&◌, and-true, and_assoc, true≢false}
use mathlib.Core.List.{List, [], ◌∷◌, map}
use Prim.Native.Nat.{ℕ, zero, suc, ◌+◌, ◌≤◌, ◌<◌, zero-le, suc-le-suc}
use native.Mathlib.Nat.{not-suc-le-zero, le_of_suc-le-suc}
use native.Mathlib.Numerals.{add-one}
use lib.ListN.{length, get_or, drop, drop_of_length-le}
use lib.Seq.{drop-cons}
use Rattle.lists.specs.Tabulate.{tab, all, each}
use Rattle.lists.proofs.Bools.{and_intro, and_left, and_right, test}

module _ {A : Type 0} where
  pub length-tab : (n : ℕ) (f : ℕ → A) → length (tab n f) ≡ n
  unfolding tab
  length-tab zero f = refl
  length-tab (suc n) f = ap suc (length-tab n (λ i. f (suc i)))

  pub get_or-tab : (n : ℕ) (f : ℕ → A) (i : ℕ) (d : A) → i < n → get_or (tab n f) i d ≡ f i
  unfolding tab
  get_or-tab zero f i d h = absurd (not-suc-le-zero h)
  get_or-tab (suc n) f zero d h = refl
  get_or-tab (suc n) f (suc i) d h = get_or-tab n (λ j. f (suc j)) i d (le_of_suc-le-suc h)

  pub tab_ext : (n : ℕ) (f g : ℕ → A) → ((i : ℕ) → i < n → f i ≡ g i) → tab n f ≡ tab n g
  unfolding tab
  tab_ext zero f g h = refl
  tab_ext (suc n) f g h = ap₂ (λ (x : A) (l : List A). x ∷ l) (h 0 (suc-le-suc zero-le)) (tab_ext n (λ i. f (suc i)) (λ i. g (suc i)) (λ i k. h (suc i) (suc-le-suc k)))

  -- a list is the table of its elements
  pub tab-get_or : (l : List A) (d : A) → tab (length l) (λ i. get_or l i d) ≡ l
  unfolding tab
  tab-get_or [] d = refl
  tab-get_or (x ∷ l) d = ap (λ (r : List A). x ∷ r) (tab-get_or l d)

pub map-tab : {A B : Type 0} (g : A → B) (n : ℕ) (f : ℕ → A) → map g (tab n f) ≡ tab n (λ i. g (f i))
unfolding tab
map-tab g zero f = refl
map-tab {B = B} g (suc n) f = ap (λ (r : List B). g (f 0) ∷ r) (map-tab g n (λ i. f (suc i)))

pub all_elim : (n : ℕ) (p : ℕ → Bool) → all n p ≡ true → (i : ℕ) → i < n → p i ≡ true
unfolding all
all_elim zero p t i h = absurd (not-suc-le-zero h)
all_elim (suc n) p t zero h = and_left (p 0) (all n (λ j. p (suc j))) t
all_elim (suc n) p t (suc i) h =
    all_elim n (λ j. p (suc j)) (and_right (p 0) (all n (λ j. p (suc j))) t) i (le_of_suc-le-suc h)

pub all_intro : (n : ℕ) (p : ℕ → Bool) → ((i : ℕ) → i < n → p i ≡ true) → all n p ≡ true
unfolding all
all_intro zero p h = refl
all_intro (suc n) p h = and_intro (h 0 (suc-le-suc zero-le)) (all_intro n (λ j. p (suc j)) (λ i k. h (suc i) (suc-le-suc k)))

-- a test of every place that fails, fails at some place
pub all_fails : (n : ℕ) (p : ℕ → Bool) → all n p ≡ false → (i : ℕ) × (i < n) × (p i ≡ false)
unfolding all
all_fails zero p h = absurd (true≢false h)
all_fails (suc n) p h =
    elim (test (p 0)) [
      | inl e ↦
          let r : (i : ℕ) × (i < n) × (p (suc i) ≡ false) = all_fails n (λ j. p (suc j)) (rw e at h) in
          (suc r.0, suc-le-suc r.1, r.2)
      | inr e ↦ (0, suc-le-suc zero-le, e)
    ]

pub all_ext : (n : ℕ) (p q : ℕ → Bool) → ((i : ℕ) → i < n → p i ≡ q i) → all n p ≡ all n q
unfolding all
all_ext zero p q h = refl
all_ext (suc n) p q h = ap₂ ◌&&◌ (h 0 (suc-le-suc zero-le)) (all_ext n (λ j. p (suc j)) (λ j. q (suc j)) (λ i k. h (suc i) (suc-le-suc k)))

-- a test of every element of a list is one of every place
pub each_all : {A : Type 0} (p : A → Bool) (l : List A) (d : A) → each p l ≡ all (length l) (λ i. p (get_or l i d))
unfolding each all
each_all p [] d = refl
each_all p (x ∷ l) d = ap (λ (b : Bool). p x && b) (each_all p l d)

-- a test of the elements from place i on: that of place i and those after it
pub each-drop : {A : Type 0} (p : A → Bool) (l : List A) (i : ℕ) (d : A) → i < length l → each p (drop i l) ≡ p (get_or l i d) && each p (drop (i + 1) l)
unfolding each
each-drop p l i d h = ap (each p) (drop-cons l i d h) ∙ ap (λ (k : ℕ). p (get_or l i d) && each p (drop k l)) (sym (add-one i))

-- and from the end on it passes
pub each_end : {A : Type 0} (p : A → Bool) (l : List A) (i : ℕ) → length l ≤ i → each p (drop i l) ≡ true
unfolding each
each_end p l i h = ap (each p) (drop_of_length-le l h)

pub each-tab : {A : Type 0} (p : A → Bool) (n : ℕ) (f : ℕ → A) → each p (tab n f) ≡ all n (λ i. p (f i))
unfolding each tab all
each-tab p zero f = refl
each-tab p (suc n) f = ap (λ (b : Bool). p (f 0) && b) (each-tab p n (λ i. f (suc i)))

-- one more place at the end
pub all_last : (n : ℕ) (p : ℕ → Bool) → all (suc n) p ≡ all n p && p n
unfolding all
all_last zero p = and-true (p 0)
all_last (suc n) p = ap (λ (b : Bool). p 0 && b) (all_last n (λ i. p (suc i))) ∙ sym (and_assoc (p 0) (all n (λ i. p (suc i))) (p (suc n)))
