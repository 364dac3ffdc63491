-- A table of m rows of n elements: how many of its elements pass a test.
-- Assumes nothing.
use mathlib.Core.Path.{◌≡◌, refl, sym, ap, ap₂, ◌∙◌}
use mathlib.Core.Bool.{Bool, true, false, ◌&&◌}
use mathlib.Core.List.{List}
use Prim.Native.Nat.{ℕ, zero, suc, ◌+◌, ◌*◌, ◌<◌, zero-le, suc-le-suc}
use native.Mathlib.Nat.{zero-mul, suc-mul, add_comm, zero-add}
use native.Mathlib.Numerals.{one-add}
use lib.ListN.{length, length-append}
use Rattle.lists.specs.Tabulate.{tab, count, keep, concat}
use Rattle.lists.proofs.Choose.{keep_append, length-keep-tab}
use Rattle.lists.proofs.Count.{to_ℕ, count_ext, count_none}

module _ {A : Type 0} (p : A → Bool) (n : ℕ) where
  -- how many elements of a table pass
  abbrev pub passed : ℕ → (ℕ → ℕ → A) → ℕ
  passed m f = length (keep p (concat (tab m (λ i. tab n (f i)))))

  -- the first row, and the others
  pub passed_more : (m : ℕ) (f : ℕ → ℕ → A) → passed (suc m) f ≡ count n (λ j. p (f 0 j)) + passed m (λ i. f (suc i))
  unfolding tab concat
  passed_more m f =
      let rest : List A = concat (tab m (λ i. tab n (f (suc i)))) in
      ap length (keep_append p (tab n (f 0)) rest)
      ∙ length-append (keep p (tab n (f 0))) (keep p rest)
      ∙ ap (λ (k : ℕ). k + length (keep p rest)) (length-keep-tab p n (f 0))

  row_product : (a : Bool) (b : ℕ → Bool) (c : ℕ) → count n (λ j. a && b j) + c * count n b ≡ (to_ℕ a + c) * count n b
  row_product true b c = add_comm (count n b) (c * count n b) ∙ sym (suc-mul c (count n b)) ∙ ap (λ (k : ℕ). k * count n b) (sym (one-add c))
  row_product false b c =
      ap (λ (k : ℕ). k + c * count n b) (count_none n (λ j. false) (λ j l. refl))
      ∙ zero-add (c * count n b)
      ∙ ap (λ (k : ℕ). k * count n b) (sym (zero-add c))

  -- a test of the row and one of the place in it
  pub passed-product : (m : ℕ) (f : ℕ → ℕ → A) (a b : ℕ → Bool) → ((i j : ℕ) → i < m → j < n → p (f i j) ≡ a i && b j)
      → passed m f ≡ count m a * count n b
  unfolding tab concat keep count
  passed-product zero f a b h = sym (zero-mul (count n b))
  passed-product (suc m) f a b h =
      passed_more m f
      ∙ ap₂ ◌+◌ (count_ext n (λ j. p (f 0 j)) (λ j. a 0 && b j) (λ j l. h 0 j (suc-le-suc zero-le) l))
      (passed-product m (λ i. f (suc i)) (λ i. a (suc i)) b (λ i j k l. h (suc i) j (suc-le-suc k) l))
      ∙ row_product (a 0) b (count m (λ i. a (suc i)))
