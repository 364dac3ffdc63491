-- Laws of bytes written into a buffer.
-- Assumes nothing.
use mathlib.Core.Path.{◌≡◌, refl, sym, ap, ap₂, ◌∙◌, subst}
use mathlib.Core.List.{List, [], ◌++◌, append_assoc}
use Prim.Native.Nat.{ℕ, ◌+◌, ◌≤◌}
use native.Mathlib.Nat.{add-zero}
use native.Mathlib.Omega.{arith}
use lib.ListN.{length, take, drop, length-append}
use lib.Seq.{sets, sets-eq, length-sets, drop-drop}
use borrow.Rule.Slice.PartMut.{put_mid}
use Rattle.lists.proofs.Stores.{sets-append}
use Rattle.text.specs.Internal.Writing.{Written}

-- bytes that are stored at a place where they fit
pub written_at : (l bytes m : List ℕ) (at end : ℕ) → m ≡ sets l at bytes → end ≡ at + length bytes → end ≤ length l → Written l at bytes m end
written_at l bytes m at end e n h = record { stored = e; next = n; fits = h; long = ap length e ∙ length-sets l at bytes }

-- nothing is written
pub written_none : (l : List ℕ) (at : ℕ) → at ≤ length l → Written l at [] l at
written_none l at h = written_at l [] l at at refl (sym (add-zero at)) h

pub written-length : {l bytes m : List ℕ} {at end : ℕ} → Written l at bytes m end → length m ≡ length l
written-length w = w.long

module _ {l m r : List ℕ} {at middle end : ℕ} {xs ys : List ℕ} where
  -- bytes, and bytes after them
  pub written_then : Written l at xs m middle → Written m middle ys r end → Written l at (xs ++ ys) r end
  written_then p q =
      written_at l (xs ++ ys) r at end
      (q.stored ∙ ap₂ (λ (k : List ℕ) (n : ℕ). sets k n ys) p.stored p.next ∙ sym (sets-append l xs ys at))
      (simp length-append (omega (arith, p.next, q.next)))
      (omega (arith, q.fits, p.long))

-- bytes copied into their place
pub written_copied : (l bytes m : List ℕ) (at k end : ℕ) → at + length bytes ≤ length l → m ≡ bytes → k ≡ length bytes → end ≡ at + length bytes
    → Written l at bytes (put_mid at k l m) end
written_copied l bytes m at k end h same e n =
    let after : drop k (drop at l) ≡ drop (at + length bytes) l =
    ap (λ (j : ℕ). drop j (drop at l)) e ∙ drop-drop (length bytes) at l ∙ ap (λ (j : ℕ). drop j l) (omega arith) in
    let stored : take at l ++ (m ++ drop k (drop at l)) ≡ sets l at bytes =
    ap₂ (λ (xs ys : List ℕ). take at l ++ (xs ++ ys)) same after ∙ sym (append_assoc (take at l) bytes (drop (at + length bytes) l)) ∙ sym (sets-eq bytes l at h) in
    written_at l bytes (put_mid at k l m) at end stored n (omega (arith, n, h))

-- the same bytes
pub written_as : {l xs ys m : List ℕ} {at end : ℕ} → xs ≡ ys → Written l at xs m end → Written l at ys m end
written_as {l = l} {m = m} {at = at} {end = end} e w = subst (λ (bytes : List ℕ). Written l at bytes m end) e w

-- what is written from the front on
pub written_front : {l bytes m : List ℕ} {end : ℕ} → Written l 0 bytes m end → m ≡ bytes ++ drop end l
written_front {l = l} {bytes = bytes} {end = end} w =
    let n : 0 + length bytes ≡ end = sym w.next in
    w.stored ∙ sets-eq bytes l 0 (omega (arith, w.fits)) ∙ ap (λ (k : ℕ). bytes ++ drop k l) n

pub written_count : {l bytes m : List ℕ} {end : ℕ} → Written l 0 bytes m end → end ≡ length bytes
written_count w = omega (arith, w.next)
