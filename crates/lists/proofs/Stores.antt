-- Words stored one after the other from a place on (`sets` of lib.Seq).
-- Assumes nothing.
use mathlib.Core.Path.{◌≡◌, refl, sym, ap, ◌∙◌}
use mathlib.Core.List.{List, [], ◌∷◌, ◌++◌, append_assoc}
use Prim.Native.Nat.{ℕ, suc, ◌+◌, ◌-◌, ◌≤◌}
use native.Mathlib.Nat.{add-zero}
use native.Mathlib.Omega.{arith}
use lib.ListN.{length, take, drop, set, length-drop}
use lib.Seq.{sets, sets-eq, set_comm, length-take-le, take_all, take_at, drop_at, take-set-le, drop-set-add}

module _ {A : Type 0} where
  -- some words and then others
  pub sets-append : (l vs ws : List A) (at : ℕ) → sets l at (vs ++ ws) ≡ sets (sets l at vs) (at + length vs) ws
  sets-append l [] ws at = ap (λ (n : ℕ). sets l n ws) (sym (add-zero at))
  sets-append l (a ∷ vs) ws at = sets-append (set l at a) vs ws (suc at) ∙ ap (λ (n : ℕ). sets (sets l at (a ∷ vs)) n ws) (omega arith)

  -- the last word may be stored first
  pub sets_last : (l vs : List A) (a : A) (at : ℕ) → sets l at (vs ++ (a ∷ [])) ≡ sets (set l (at + length vs) a) at vs
  sets_last l [] a at = ap (λ (k : ℕ). set l k a) (sym (add-zero at))
  sets_last l (v ∷ vs) a at =
      let n : suc at + length vs ≡ at + suc (length vs) = omega arith in
      sets_last (set l at v) vs a (suc at)
      ∙ ap (λ (k : ℕ). sets (set (set l at v) k a) (suc at) vs) n
      ∙ ap (λ (m : List A). sets m (suc at) vs) (set_comm l at (at + suc (length vs)) v a (λ e. omega arith))

  -- what was stored stands there
  pub sets-read : (l vs : List A) (at n : ℕ) → length vs ≡ n → at + n ≤ length l → take n (drop at (sets l at vs)) ≡ vs
  sets-read l vs at n e h =
      ap (λ (s : List A). take n (drop at s))
      (sets-eq vs l at (omega arith) ∙ append_assoc (take at l) vs (drop (at + length vs) l))
      ∙ ap (take n) (drop_at (take at l) (vs ++ drop (at + length vs) l) at (length-take-le at l (omega arith)))
      ∙ take_at vs (drop (at + length vs) l) n e

  part_set : (l : List A) (a : A) (at n place : ℕ) → at + n ≤ place → take n (drop at (set l place a)) ≡ take n (drop at l)
  part_set l a at n place h =
      ap (λ (p : ℕ). take n (drop at (set l p a))) {y = at + (place - at)} (omega arith)
      ∙ ap (take n) (drop-set-add at l (place - at) a)
      ∙ take-set-le n (drop at l) (place - at) a (omega arith)

  -- a part before the stores stays
  pub part_kept : (l vs : List A) (at n place : ℕ) → at + n ≤ place → take n (drop at (sets l place vs)) ≡ take n (drop at l)
  part_kept l [] at n place h = refl
  part_kept l (a ∷ vs) at n place h = part_kept (set l place a) vs at n (suc place) (omega arith) ∙ part_set l a at n place h

  -- a part from a place to the end, as the code lends it
  pub part_all : (at : ℕ) (l : List A) → take (length l - at) (drop at l) ≡ drop at l
  part_all at l = take_all (length l - at) (drop at l) (simp length-drop (omega arith))
