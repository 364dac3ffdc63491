-- Laws of `keep`, `choose` and `first`, and of what a sublist inherits from its list.
-- Assumes nothing.
use mathlib.Core.Path.{◌≡◌, refl, sym, ap, ◌∙◌, subst}
use mathlib.Core.Logic.{◌⊎◌, inl, inr}
use mathlib.Core.Bool.{Bool, true, false, cond, not, false≢true}
use mathlib.Core.Option.{Option, some, some-injective, none-ne-some}
use mathlib.Core.List.Memᴰ
use mathlib.Core.List.Sublistᴰ
use mathlib.Core.List.{List, [], ◌∷◌, ◌++◌, map, Memᴰ, Sublistᴰ}
use Prim.Native.Nat.{ℕ, zero, suc, ◌+◌, ◌<◌}
use native.Mathlib.Nat.{not-suc-le-zero, le_of_suc-le-suc}
use native.Mathlib.Omega.{arith}
use lib.ListN.{length, take, drop}
use Rattle.lists.specs.Tabulate.{tab, count, keep, first, choose}
use Rattle.lists.proofs.Every.{Every, none as every_none, more}
use Rattle.lists.proofs.Bools.{clash}

module _ {A : Type 0} where
  -- ---- sublists

  pub every_sub : {P : A → Type 0} {l m : List A} → Sublistᴰ l m → Every P m → Every P l
  every_sub Sublistᴰ.slnil e = e
  every_sub (Sublistᴰ.cons s) (more p e) = every_sub s e
  every_sub {P = P} (Sublistᴰ.cons-cons q s) (more p e) = more (subst P (sym q) p) (every_sub s e)

  pub take-sub : (n : ℕ) (l : List A) → Sublistᴰ (take n l) l
  take-sub zero l = Sublistᴰ.nil-sublist l
  take-sub (suc n) [] = Sublistᴰ.slnil
  take-sub (suc n) (x ∷ l) = Sublistᴰ.cons-cons refl (take-sub n l)

  pub drop-sub : (n : ℕ) (l : List A) → Sublistᴰ (drop n l) l
  drop-sub zero l = Sublistᴰ.refl l
  drop-sub (suc n) [] = Sublistᴰ.slnil
  drop-sub (suc n) (x ∷ l) = Sublistᴰ.cons (drop-sub n l)

  -- ---- what passes a test

  abbrev picked : Bool → A → List A → List A
  picked b x l = elim b [ true ↦ x ∷ l | false ↦ l ]

  pub keep-sub : (p : A → Bool) (l : List A) → Sublistᴰ (keep p l) l
  unfolding keep
  keep-sub p [] = Sublistᴰ.slnil
  keep-sub p (x ∷ l) = at (p x) (keep-sub p l)
    where
      at : (b : Bool) {k : List A} → Sublistᴰ k l → Sublistᴰ (picked b x k) (x ∷ l)
      at true s = Sublistᴰ.cons-cons refl s
      at false s = Sublistᴰ.cons s

  pub keep_append : (p : A → Bool) (l m : List A) → keep p (l ++ m) ≡ keep p l ++ keep p m
  unfolding keep
  keep_append p [] m = refl
  keep_append p (x ∷ l) m = at (p x) (keep p l) (keep p m) (keep_append p l m)
    where
      at : (b : Bool) {k : List A} (r s : List A) → k ≡ r ++ s → picked b x k ≡ picked b x r ++ s
      at true r s e = ap (λ (y : List A). x ∷ y) e
      at false r s e = e

  -- what passes one test among what passes another
  pub keep_mono : (p q : A → Bool) → ((x : A) → p x ≡ true → q x ≡ true) → (l : List A) → Sublistᴰ (keep p l) (keep q l)
  unfolding keep
  keep_mono p q h [] = Sublistᴰ.slnil
  keep_mono p q h (x ∷ l) = at (p x) (q x) (h x) (keep_mono p q h l)
    where
      at : (b c : Bool) → (b ≡ true → c ≡ true) → {k m : List A} → Sublistᴰ k m → Sublistᴰ (picked b x k) (picked c x m)
      at true true g s = Sublistᴰ.cons-cons refl s
      at true false g s = absurd (false≢true (g refl))
      at false true g s = Sublistᴰ.cons s
      at false false g s = s

  pub keep_every : (p : A → Bool) (l : List A) → Every (λ x. p x ≡ true) (keep p l)
  unfolding keep
  keep_every p [] = every_none
  keep_every p (x ∷ l) = at (p x) refl (keep_every p l)
    where
      at : (b : Bool) → p x ≡ b → {k : List A} → Every (λ y. p y ≡ true) k → Every (λ y. p y ≡ true) (picked b x k)
      at true e s = more e s
      at false e s = s

  -- what holds of all that pass holds of each
  pub keep_at : {P : A → Type 0} (p : A → Bool) (n : ℕ) (f : ℕ → A) → Every P (keep p (tab n f)) → (i : ℕ) → i < n → p (f i) ≡ true → P (f i)
  unfolding keep tab
  keep_at p zero f e i h t = absurd (not-suc-le-zero h)
  keep_at {P} p (suc n) f e zero h t = at (p (f 0)) t (keep p (tab n (λ j. f (suc j)))) e
    where
      at : (b : Bool) → b ≡ true → (k : List A) → Every P (picked b (f 0) k) → P (f 0)
      at true q k (more x y) = x
      at false q k x = absurd (false≢true q)
  keep_at {P} p (suc n) f e (suc i) h t = keep_at p n (λ j. f (suc j)) (at (p (f 0)) (keep p (tab n (λ j. f (suc j)))) e) i (le_of_suc-le-suc h) t
    where
      at : (b : Bool) (k : List A) → Every P (picked b (f 0) k) → Every P k
      at true k (more x y) = y
      at false k x = x

  pub length-keep-tab : (p : A → Bool) (n : ℕ) (f : ℕ → A) → length (keep p (tab n f)) ≡ count n (λ i. p (f i))
  unfolding keep tab count
  length-keep-tab p zero f = refl
  length-keep-tab p (suc n) f = at (p (f 0)) (keep p (tab n (λ i. f (suc i)))) (length-keep-tab p n (λ i. f (suc i)))
    where
      at : (b : Bool) (k : List A) {c : ℕ} → length k ≡ c → length (picked b (f 0) k) ≡ cond b 1 0 + c
      at true k e = omega arith
      at false k e = omega arith

  -- those that pass a test and those that do not are all
  pub keep_split : (p : A → Bool) (l : List A) → length (keep p l) + length (keep (λ x. not (p x)) l) ≡ length l
  unfolding keep
  keep_split p [] = refl
  keep_split p (x ∷ l) = at (p x) (keep p l) (keep (λ y. not (p y)) l) (keep_split p l)
    where
      at : (b : Bool) (k m : List A) → length k + length m ≡ length l → length (picked b x k) + length (picked (not b) x m) ≡ suc (length l)
      at true k m e = omega (arith, e)
      at false k m e = omega (arith, e)

  -- ---- the ways to take k elements

  pub sub-chosen : {l m : List A} → Sublistᴰ l m → Memᴰ l (choose (length l) m)
  unfolding choose
  sub-chosen Sublistᴰ.slnil = Memᴰ.head refl
  sub-chosen (Sublistᴰ.cons {a = x} {l₁ = []} s) = Memᴰ.head refl
  sub-chosen (Sublistᴰ.cons {a = x} {l₁ = a ∷ l} {l₂ = m} s) = Memᴰ.append_right (map (λ k. x ∷ k) (choose (length l) m)) (sub-chosen s)
  sub-chosen (Sublistᴰ.cons-cons {a = a} {b = b} {l₁ = l} {l₂ = m} e s) =
      Memᴰ.append_left (choose (suc (length l)) m) (Memᴰ.cast (ap (λ (x : A). x ∷ l) e) (Memᴰ.map (λ k. b ∷ k) (sub-chosen s)))

  pub chosen-length : (k : ℕ) (m : List A) {l : List A} → Memᴰ l (choose k m) → length l ≡ k
  unfolding choose
  chosen-length zero m {l} c = elim (Memᴰ.cases_cons c) [ inl e ↦ ap length e | inr n ↦ absurd (Memᴰ.not-nil n) ]
  chosen-length (suc k) [] c = absurd (Memᴰ.not-nil c)
  chosen-length (suc k) (x ∷ m) {l} c =
      at (Memᴰ.append_cases (map (λ j. x ∷ j) (choose k m)) c) (λ (j : List A) n. chosen-length k m n) (λ n. chosen-length (suc k) m n)
    where
      at : Memᴰ l (map (λ j. x ∷ j) (choose k m)) ⊎ Memᴰ l (choose (suc k) m)
          → ((j : List A) → Memᴰ j (choose k m) → length j ≡ k) → (Memᴰ l (choose (suc k) m) → length l ≡ suc k) → length l ≡ suc k
      at (inl n) f g = let r = Memᴰ.of_map (λ j. x ∷ j) (choose k m) n in ap length (sym r.2) ∙ ap suc (f r.0 r.1)
      at (inr n) f g = g n

  -- ---- the first that passes a test

  abbrev firstly : Bool → A → Option A → Option A
  firstly b x o = elim b [ true ↦ some x | false ↦ o ]

  pub first_passes : (p : A → Bool) (l : List A) {y : A} → first p l ≡ some y → p y ≡ true
  unfolding first
  first_passes p [] e = absurd (none-ne-some _ e)
  first_passes p (x ∷ l) {y} e = at (p x) refl (first_passes p l) e
    where
      at : (b : Bool) → p x ≡ b → (first p l ≡ some y → p y ≡ true) → firstly b x (first p l) ≡ some y → p y ≡ true
      at true q ih f = ap p (sym (some-injective _ _ f)) ∙ q
      at false q ih f = ih f

  pub first_member : (p : A → Bool) (l : List A) {y : A} → first p l ≡ some y → Memᴰ y l
  unfolding first
  first_member p [] e = absurd (none-ne-some _ e)
  first_member p (x ∷ l) {y} e = at (p x) (first_member p l) e
    where
      at : (b : Bool) → (first p l ≡ some y → Memᴰ y l) → firstly b x (first p l) ≡ some y → Memᴰ y (x ∷ l)
      at true ih f = Memᴰ.head (sym (some-injective _ _ f))
      at false ih f = Memᴰ.tail (ih f)

  pub first_finds : (p : A → Bool) (l : List A) {y : A} → Memᴰ y l → p y ≡ true → (z : A) × (first p l ≡ some z)
  unfolding first
  first_finds p [] m h = absurd (Memᴰ.not-nil m)
  first_finds p (x ∷ l) {y} m h = at (p x) refl (Memᴰ.cases_cons m) (λ n. first_finds p l n h)
    where
      at : (b : Bool) → p x ≡ b → (y ≡ x) ⊎ Memᴰ y l → (Memᴰ y l → (z : A) × (first p l ≡ some z)) → (z : A) × (firstly b x (first p l) ≡ some z)
      at true q c ih = (x, refl)
      at false q (inl e) ih = absurd (clash (ap p (sym e) ∙ h) q)
      at false q (inr n) ih = ih n

pub every_mapped : {A B : Type 0} {P : B → Type 0} (f : A → B) {l : List A} → Every (λ x. P (f x)) l → Every P (map f l)
every_mapped f every_none = every_none
every_mapped f (more p e) = more p (every_mapped f e)

pub sub-map : {A B : Type 0} (f : A → B) {l m : List A} → Sublistᴰ l m → Sublistᴰ (map f l) (map f m)
sub-map f Sublistᴰ.slnil = Sublistᴰ.slnil
sub-map f (Sublistᴰ.cons s) = Sublistᴰ.cons (sub-map f s)
sub-map f (Sublistᴰ.cons-cons e s) = Sublistᴰ.cons-cons (ap f e) (sub-map f s)
