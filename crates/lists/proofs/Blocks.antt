-- Lists one after the other: lengths, where a word stands when all are equally long, and what holds of every element.
-- Assumes nothing.
use mathlib.Core.Path.{◌≡◌, refl, sym, ap, ap₂, ◌∙◌}
use mathlib.Core.Bool.{Bool, true}
use mathlib.Core.List.{List, [], ◌∷◌, ◌++◌, append_assoc, append-nil}
use Prim.Native.Nat.{ℕ, zero, suc, ◌+◌, ◌*◌, ◌≤◌, ◌<◌, zero-le, suc-le-suc}
use native.Mathlib.Nat.{not-suc-le-zero, le_of_suc-le-suc, zero-mul, mul-zero, suc-mul, add_comm, add_assoc}
use native.Mathlib.Omega.{arith}
use lib.ListN.{length, get_or, take, drop, length-append, get_or-append, take-append-drop}
use lib.Seq.{get_or-append-add, take_at, drop_at, drop-drop}
use Rattle.lists.specs.Tabulate.{tab, each, concat}
use Rattle.lists.proofs.Bools.{and_intro, and_left, and_right}
use Rattle.lists.proofs.Every.{Every, none, more}

-- the element n places after a list of length w is in the list that follows
pub get_d_after : {A : Type 0} (xs ys : List A) (w n : ℕ) (d : A) → length xs ≡ w → get_or (xs ++ ys) (w + n) d ≡ get_or ys n d
get_d_after xs ys w n d e = ap (λ (k : ℕ). get_or (xs ++ ys) (k + n) d) (sym e) ∙ get_or-append-add xs ys n d

module _ {A : Type 0} where
  -- one more at the end
  pub tab_more : (n : ℕ) (f : ℕ → A) → tab (suc n) f ≡ tab n f ++ (f n ∷ [])
  unfolding tab
  tab_more zero f = refl
  tab_more (suc n) f = ap (λ (l : List A). f 0 ∷ l) (tab_more n (λ i. f (suc i)))

  pub concat_more : (n : ℕ) (f : ℕ → List A) → concat (tab (suc n) f) ≡ concat (tab n f) ++ f n
  unfolding tab concat
  concat_more zero f = append-nil (f 0)
  concat_more (suc n) f =
      ap (λ (l : List A). f 0 ++ l) (concat_more n (λ i. f (suc i)))
      ∙ sym (append_assoc (f 0) (concat (tab n (λ i. f (suc i)))) (f (suc n)))

  -- the first k of n lists are no longer than all of them
  pub concat-le : (k n : ℕ) (f : ℕ → List A) → k ≤ n → length (concat (tab k f)) ≤ length (concat (tab n f))
  unfolding tab concat
  concat-le zero n f h = zero-le
  concat-le (suc k) zero f h = absurd (not-suc-le-zero h)
  concat-le (suc k) (suc n) f h =
      let rest = concat-le k n (λ i. f (suc i)) (le_of_suc-le-suc h) in
      omega (arith, rest, length-append (f 0) (concat (tab k (λ i. f (suc i)))), length-append (f 0) (concat (tab n (λ i. f (suc i)))))

  -- n lists of w elements
  pub length-concat : (n w : ℕ) (f : ℕ → List A) → ((i : ℕ) → i < n → length (f i) ≡ w) → length (concat (tab n f)) ≡ n * w
  unfolding tab concat
  length-concat zero w f h = sym (zero-mul w)
  length-concat (suc n) w f h =
      length-append (f 0) (concat (tab n (λ i. f (suc i))))
      ∙ ap₂ ◌+◌ (h 0 (suc-le-suc zero-le)) (length-concat n w (λ i. f (suc i)) (λ i k. h (suc i) (suc-le-suc k)))
      ∙ add_comm w (n * w)
      ∙ sym (suc-mul n w)

  -- element k of list i
  pub get_or-concat : (n w : ℕ) (f : ℕ → List A) → ((i : ℕ) → i < n → length (f i) ≡ w)
      → (i k : ℕ) (d : A) → i < n → k < w → get_or (concat (tab n f)) (i * w + k) d ≡ get_or (f i) k d
  unfolding tab concat
  get_or-concat zero w f h i k d p q = absurd (not-suc-le-zero p)
  get_or-concat (suc n) w f h zero k d p q =
      ap (λ (m : ℕ). get_or (f 0 ++ concat (tab n (λ i. f (suc i)))) m d) (omega arith)
      ∙ get_or-append (f 0) (concat (tab n (λ i. f (suc i)))) d k (omega (arith, h 0 (suc-le-suc zero-le)))
  get_or-concat (suc n) w f h (suc i) k d p q =
      ap (λ (m : ℕ). get_or (f 0 ++ concat (tab n (λ i. f (suc i)))) m d) (ap (λ (m : ℕ). m + k) (suc-mul i w ∙ add_comm (i * w) w) ∙ add_assoc w (i * w) k)
      ∙ get_d_after (f 0) (concat (tab n (λ i. f (suc i)))) w (i * w + k) d (h 0 (suc-le-suc zero-le))
      ∙ get_or-concat n w (λ i. f (suc i)) (λ i k. h (suc i) (suc-le-suc k)) i k d (le_of_suc-le-suc p) q

  -- list i of n lists of w elements, whatever follows them
  pub block_at : (n w : ℕ) (f : ℕ → List A) (z : List A) → ((i : ℕ) → i < n → length (f i) ≡ w)
      → (i : ℕ) → i < n → take w (drop (w * i) (concat (tab n f) ++ z)) ≡ f i
  unfolding tab concat
  block_at zero w f z h i p = absurd (not-suc-le-zero p)
  block_at (suc n) w f z h zero p =
      let rest : List A = concat (tab n (λ i. f (suc i))) in
      ap₂ (λ (k : ℕ) (l : List A). take w (drop k l)) (mul-zero w) (append_assoc (f 0) rest z)
      ∙ take_at (f 0) (rest ++ z) w (h 0 (suc-le-suc zero-le))
  block_at (suc n) w f z h (suc i) p =
      let rest : List A = concat (tab n (λ i. f (suc i))) in
      let place : w * suc i ≡ w + w * i = omega arith in
      ap₂ (λ (k : ℕ) (l : List A). take w (drop k l)) place (append_assoc (f 0) rest z)
      ∙ ap (take w) (sym (drop-drop (w * i) w (f 0 ++ (rest ++ z))) ∙ ap (drop (w * i)) (drop_at (f 0) (rest ++ z) w (h 0 (suc-le-suc zero-le))))
      ∙ block_at n w (λ i. f (suc i)) z (λ i k. h (suc i) (suc-le-suc k)) i (le_of_suc-le-suc p)

  -- two lists with the same n blocks of w elements, and the same after these
  pub blocks_same : (n w : ℕ) (a b : List A) → ((i : ℕ) → i < n → take w (drop (w * i) a) ≡ take w (drop (w * i) b))
      → drop (w * n) a ≡ drop (w * n) b → a ≡ b
  blocks_same zero w a b h e = sym (ap (λ (k : ℕ). drop k a) (mul-zero w)) ∙ e ∙ ap (λ (k : ℕ). drop k b) (mul-zero w)
  blocks_same (suc n) w a b h e =
      let after : (i : ℕ) (l : List A) → drop (w * i) (drop w l) ≡ drop (w * suc i) l =
      λ i l. drop-drop (w * i) w l ∙ ap (λ (k : ℕ). drop k l) {x = w + w * i} {y = w * suc i} (omega arith) in
      let front : take w a ≡ take w b =
      sym (ap (λ (k : ℕ). take w (drop k a)) (mul-zero w)) ∙ h 0 (suc-le-suc zero-le) ∙ ap (λ (k : ℕ). take w (drop k b)) (mul-zero w) in
      let rest : drop w a ≡ drop w b =
      blocks_same n w (drop w a) (drop w b)
      (λ i k. ap (take w) (after i a) ∙ h (suc i) (suc-le-suc k) ∙ sym (ap (take w) (after i b)))
      (after n a ∙ e ∙ sym (after n b)) in
      sym (take-append-drop w a) ∙ ap₂ (λ (x y : List A). x ++ y) front rest ∙ take-append-drop w b

module _ {A : Type 0} {P : A → Type 0} where
  pub every_append : {xs ys : List A} → Every P xs → Every P ys → Every P (xs ++ ys)
  every_append none g = g
  every_append (more p e) g = more p (every_append e g)

  pub every_tab : (n : ℕ) (f : ℕ → A) → ((i : ℕ) → i < n → P (f i)) → Every P (tab n f)
  unfolding tab
  every_tab zero f h = none
  every_tab (suc n) f h = more (h 0 (suc-le-suc zero-le)) (every_tab n (λ i. f (suc i)) (λ i k. h (suc i) (suc-le-suc k)))

  pub every_concat : (n : ℕ) (f : ℕ → List A) → ((i : ℕ) → i < n → Every P (f i)) → Every P (concat (tab n f))
  unfolding tab concat
  every_concat zero f h = none
  every_concat (suc n) f h = every_append (h 0 (suc-le-suc zero-le)) (every_concat n (λ i. f (suc i)) (λ i k. h (suc i) (suc-le-suc k)))

  -- what holds of every element and of the default holds at every place
  pub every_get_or : {xs : List A} → Every P xs → (d : A) → P d → (i : ℕ) → P (get_or xs i d)
  every_get_or none d q i = q
  every_get_or (more p e) d q zero = p
  every_get_or (more p e) d q (suc i) = every_get_or e d q i

pub each_every : {A : Type 0} (p : A → Bool) (xs : List A) → each p xs ≡ true → Every (λ a. p a ≡ true) xs
unfolding each
each_every p [] h = none
each_every p (x ∷ xs) h = more (and_left (p x) (each p xs) h) (each_every p xs (and_right (p x) (each p xs) h))

pub every_each : {A : Type 0} (p : A → Bool) {xs : List A} → Every (λ a. p a ≡ true) xs → each p xs ≡ true
unfolding each
every_each p none = refl
every_each p (more h e) = and_intro h (every_each p e)
