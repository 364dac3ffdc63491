-- The state that the reader has reached, from line to line.
-- Assumes nothing.
use mathlib.Core.Path.{◌≡◌, refl, sym, ap, ap₂, ◌∙◌}
use mathlib.Core.Bool.{false}
use mathlib.Core.Logic.{inl, inr}
use mathlib.Core.Option.{some}
use mathlib.Core.List.{List, [], ◌∷◌, ◌++◌}
use Prim.Native.Nat.{ℕ, ◌+◌, ◌-◌, ◌*◌, ◌≤◌, ◌<◌}
use native.Mathlib.Omega.{arith}
use borrow.Author.Tests.{eq-eqb, ne_eqb, eqb-true, eqb-false}
use lib.Dec.{eqb}
use lib.ListN.{length, replicate, length-replicate, replicate-append-replicate}
use lib.Seq.{sets}
use Rattle.lists.specs.Tabulate.{first}
use Rattle.lists.proofs.Bools.{test}
use Rattle.lists.proofs.StoredBlocks.{sets_block, concat-replicate}
use Rattle.members.specs.Members.{size, has, adding}
use Rattle.members.proofs.Masks.{has-set_of}
use Rattle.members.proofs.Words.{set_of_more, set_of_none}
use Rattle.shares.specs.Layout.{width, capacity}
use Rattle.handin.specs.Reader.{Share, share_of, is_some, words_or, placed}
use Rattle.handin.specs.Internal.Progress.{Holds}

-- the share taken last, and the others
pub share_same : (s : Share) (taken : List Share) (i : ℕ) → s.member ≡ i → share_of (s ∷ taken) i ≡ some s
unfolding share_of first
share_same s taken i e = rw (share_of, first, eq-eqb s.member i e)

pub share_other : (s : Share) (taken : List Share) (i : ℕ) → (i ≡ s.member → ⊥) → share_of (s ∷ taken) i ≡ share_of taken i
unfolding share_of first
share_other s taken i ne = rw (share_of, first, ne_eqb s.member i (λ e. ne (sym e)))

-- nobody met: all words 0
pub holds_none : (t d len : ℕ) → len ≡ capacity → size t * width t d ≤ len → Holds t d [] 0 (replicate len 0)
unfolding placed share_of first is_some words_or
holds_none t d len e fit =
    let whole : len ≡ size t * width t d + (capacity - size t * width t d) = omega (arith, e) in
    record {
      members = sym (set_of_none (size t) (λ i. false) (λ i l. refl));
      stored =
          ap (λ (k : ℕ). replicate k 0) whole
          ∙ sym (replicate-append-replicate (size t * width t d) (capacity - size t * width t d) 0)
          ∙ ap (λ (l : List ℕ). l ++ replicate (capacity - size t * width t d) 0) (sym (concat-replicate (size t) (width t d) 0));
      wide = λ i. length-replicate (width t d) 0;
    }

module _ (t d : ℕ) (taken : List Share) (present : ℕ) (words : List ℕ) (h : Holds t d taken present words) where
  -- who was met
  pub holds_met : (i : ℕ) → i < size t → has present i ≡ is_some (share_of taken i)
  holds_met i l = ap (λ (m : ℕ). has m i) h.members ∙ has-set_of (size t) (λ j. is_some (share_of taken j)) i l

  -- a share more
  pub holds_more : (i : ℕ) (ws : List ℕ) → size t ≤ 32 → i < size t → length ws ≡ width t d
      → Holds t d (record { member = i; words = ws } ∷ taken) (adding present i) (sets words (i * width t d) ws)
  unfolding placed is_some words_or
  holds_more i ws few l len =
      let s : Share = record { member = i; words = ws } in
      let zeros : List ℕ = replicate (width t d) 0 in
      let same : share_of (s ∷ taken) i ≡ some s = share_same s taken i refl in
      let mine : words_or zeros (share_of (s ∷ taken) i) ≡ ws = rw same in
      record {
        members =
            ap (λ (m : ℕ). adding m i) h.members
            ∙ set_of_more (size t) i (λ j. is_some (share_of taken j)) (λ j. is_some (share_of (s ∷ taken) j)) few l (rw same)
            (λ j k ne. ap is_some (share_other s taken j ne));
        stored =
            ap₂ (λ (b v : List ℕ). sets b (i * width t d) v) h.stored (sym mine)
            ∙ sets_block (size t) (width t d) i (λ j. words_or zeros (share_of taken j)) (λ j. words_or zeros (share_of (s ∷ taken) j))
            (replicate (capacity - size t * width t d) 0) l (λ j k. h.wide j) (ap length mine ∙ len)
            (λ j k ne. ap (words_or zeros) (share_other s taken j ne));
        wide = λ j. elim (test (eqb i j)) [
          | inl e ↦ rw (share_same s taken j (eqb-true i j e)) len
          | inr e ↦ rw (share_other s taken j (λ q. eqb-false i j e (sym q))) (h.wide j)
        ];
      }
