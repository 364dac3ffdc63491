-- Loops that write a list in place: what is done stands before what is left.
-- Assumes nothing.
use mathlib.Core.Path.{◌≡◌, sym, ap, ◌∙◌}
use mathlib.Core.List.{List, [], ◌∷◌, ◌++◌, append_assoc}
use Prim.Native.Nat.{ℕ, ◌+◌, ◌<◌}
use native.Mathlib.Numerals.{add-one}
use native.Mathlib.Omega.{arith}
use lib.ListN.{length, take, drop, get_or, set}
use lib.Seq.{take-suc-set, drop-set-lt, drop-cons, get_or-set_other}

module _ {A : Type 0} (l : List A) (i : ℕ) (w : A) (h : i < length l) where
  -- the word written at i is the last of what is done
  pub done_set : (rest : List A) → take (i + 1) (set l i w) ++ rest ≡ take i l ++ w ∷ rest
  done_set rest =
      ap (λ (r : List A). r ++ rest) (ap (λ (n : ℕ). take n (set l i w)) (add-one i) ∙ take-suc-set l i w h)
      ∙ append_assoc (take i l) (w ∷ []) rest

  -- and what is left does not change
  pub left-set : (k : ℕ) → i < k → drop k (set l i w) ≡ drop k l
  left-set k g = drop-set-lt k l i w g

  pub read_set : (k : ℕ) (d : A) → i < k → get_or (set l i w) k d ≡ get_or l k d
  read_set k d g = get_or-set_other l i k w d (λ e. omega arith)

-- what is left at i begins with the element there
pub left-cons : {A : Type 0} (l : List A) (i : ℕ) (d : A) → i < length l → drop i l ≡ get_or l i d ∷ drop (i + 1) l
left-cons l i d h = drop-cons l i d h ∙ ap (λ (n : ℕ). get_or l i d ∷ drop n l) (sym (add-one i))
