-- Laws of `each`, `concat` and `sets`: lists that are made of blocks.
-- Assumes nothing.
use mathlib.Core.Path.{◌≡◌, refl, sym, ap, ap₂, ◌∙◌}
use mathlib.Core.Bool.{Bool, true, false, ◌&&◌}
use mathlib.Core.List.{List, [], ◌∷◌, ◌++◌, append_assoc}
use Prim.Native.Nat.{ℕ, zero, suc, ◌+◌, ◌*◌, ◌<◌, zero-le, suc-le-suc}
use native.Mathlib.Nat.{not-suc-le-zero, le_of_suc-le-suc, suc-ne-zero, suc_inj, zero-add, suc-add, add-suc, zero-mul}
use native.Mathlib.Omega.{arith}
use lib.ListN.{length, set, drop, replicate, length-append, replicate-append-replicate}
use lib.Seq.{sets, sets-eq, drop_at}
use Rattle.lists.specs.Tabulate.{tab, each, concat}
use Rattle.lists.proofs.Tabulate.{tab_ext}

module _ {A : Type 0} where
  pub each_append : (p : A → Bool) (xs ys : List A) → each p (xs ++ ys) ≡ each p xs && each p ys
  unfolding each
  each_append p [] ys = refl
  each_append p (x ∷ xs) ys = and_assoc (p x) (each p xs) (each p ys) (each_append p xs ys)
    where
      and_assoc : (a b c : Bool) {e : Bool} → e ≡ b && c → a && e ≡ (a && b) && c
      and_assoc true b c h = h
      and_assoc false b c h = refl

  set_append_right : (xs ys : List A) (i : ℕ) (a : A) → set (xs ++ ys) (length xs + i) a ≡ xs ++ set ys i a
  set_append_right [] ys i a = ap (λ (k : ℕ). set ys k a) (zero-add i)
  set_append_right (x ∷ xs) ys i a =
      ap (λ (k : ℕ). set (x ∷ xs ++ ys) k a) (suc-add (length xs) i) ∙ ap (λ (l : List A). x ∷ l) (set_append_right xs ys i a)

  -- stores past a first block
  pub sets_skip : (xs ys : List A) (i : ℕ) (vs : List A) → sets (xs ++ ys) (length xs + i) vs ≡ xs ++ sets ys i vs
  sets_skip xs ys i [] = refl
  sets_skip xs ys i (v ∷ vs) =
      ap₂ (λ (l : List A) (k : ℕ). sets l k vs) (set_append_right xs ys i v) (sym (add-suc (length xs) i))
      ∙ sets_skip xs (set ys i v) (suc i) vs

  -- stores over a first block
  pub sets_over : (xs ys vs : List A) → length xs ≡ length vs → sets (xs ++ ys) 0 vs ≡ vs ++ ys
  sets_over xs ys vs e =
      sets-eq vs (xs ++ ys) 0 (simp length-append (omega arith))
      ∙ ap (λ (k : ℕ). vs ++ drop k (xs ++ ys)) (zero-add (length vs))
      ∙ ap (λ (l : List A). vs ++ l) (drop_at xs ys (length vs) e)

  -- a block of the same width stored in its place
  pub sets_block :
      (n w i : ℕ) (f g : ℕ → List A) (z : List A)
      → i < n
      → ((j : ℕ) → j < n → length (f j) ≡ w)
      → length (g i) ≡ w
      → ((j : ℕ) → j < n → (j ≡ i → ⊥) → g j ≡ f j)
      → sets (concat (tab n f) ++ z) (i * w) (g i) ≡ concat (tab n g) ++ z
  unfolding tab concat
  sets_block zero w i f g z h hf hg same = absurd (not-suc-le-zero h)
  sets_block (suc n) w zero f g z h hf hg same =
      let rest : tab n (λ j. f (suc j)) ≡ tab n (λ j. g (suc j)) = tab_ext n (λ j. f (suc j)) (λ j. g (suc j)) (λ j k. sym (same (suc j) (suc-le-suc k) (suc-ne-zero j))) in
      let front : length (f 0) ≡ length (g 0) = hf 0 (suc-le-suc zero-le) ∙ sym hg in
      ap₂ (λ (l : List A) (k : ℕ). sets l k (g 0)) (append_assoc (f 0) (concat (tab n (λ j. f (suc j)))) z) (zero-mul w)
      ∙ sets_over (f 0) (concat (tab n (λ j. f (suc j))) ++ z) (g 0) front
      ∙ ap (λ (l : List (List A)). g 0 ++ (concat l ++ z)) rest
      ∙ sym (append_assoc (g 0) (concat (tab n (λ j. g (suc j)))) z)
  sets_block (suc n) w (suc i) f g z h hf hg same =
      let place : suc i * w ≡ length (f 0) + i * w = omega (arith, hf 0 (suc-le-suc zero-le)) in
      ap₂ (λ (l : List A) (k : ℕ). sets l k (g (suc i))) (append_assoc (f 0) (concat (tab n (λ j. f (suc j)))) z) place
      ∙ sets_skip (f 0) (concat (tab n (λ j. f (suc j))) ++ z) (i * w) (g (suc i))
      ∙ ap₂ (λ (a b : List A). a ++ b) (sym (same 0 (suc-le-suc zero-le) (λ e. suc-ne-zero i (sym e))))
      (sets_block n w i (λ j. f (suc j)) (λ j. g (suc j)) z (le_of_suc-le-suc h) (λ j k. hf (suc j) (suc-le-suc k)) hg (λ j k ne. same (suc j) (suc-le-suc k) (λ e. ne (suc_inj e))))
      ∙ sym (append_assoc (g 0) (concat (tab n (λ j. g (suc j)))) z)

  -- equal blocks of one element
  pub concat-replicate : (n w : ℕ) (a : A) → concat (tab n (λ i. replicate w a)) ≡ replicate (n * w) a
  unfolding tab concat
  concat-replicate zero w a = sym (ap (λ (k : ℕ). replicate k a) (zero-mul w))
  concat-replicate (suc n) w a =
      let sum : w + n * w ≡ suc n * w = omega arith in
      ap (λ (l : List A). replicate w a ++ l) (concat-replicate n w a)
      ∙ replicate-append-replicate w (n * w) a
      ∙ ap (λ (k : ℕ). replicate k a) sum

-- a loop that tests the elements of a list block by block, and stops at the first block that fails: what is left decides
module _ {A : Type 0} (p : A → Bool) (xs rest front after : List A) (r : Bool) (left : each p xs ≡ each p rest) (cut : rest ≡ front ++ after) (tested : r ≡ each p front) where
  apart : each p xs ≡ r && each p after
  apart = left ∙ ap (each p) cut ∙ each_append p front after ∙ ap (λ (b : Bool). b && each p after) (sym tested)

  pub block_failed : r ≡ false → false ≡ each p xs
  block_failed e = sym (apart ∙ ap (λ (b : Bool). b && each p after) e)

  pub block_passed : r ≡ true → each p xs ≡ each p after
  block_passed e = apart ∙ ap (λ (b : Bool). b && each p after) e
