-- A share from its parts: how long it is, what stands in it.
-- Assumes nothing.
use mathlib.Core.Path.{◌≡◌, sym, ap, ap₂, ◌∙◌}
use mathlib.Core.List.{List, ◌++◌, append_assoc}
use Prim.Native.Nat.{ℕ, ◌+◌, ◌*◌, ◌<◌}
use native.Mathlib.Omega.{arith}
use lib.ListN.{length, get_or, length-append, get_or-append}
use Rattle.lists.specs.Tabulate.{tab, concat}
use Rattle.lists.proofs.Blocks.{get_d_after, get_or-concat, every_append}
use Rattle.lists.proofs.Every.{Every}
use Rattle.lists.proofs.Tabulate.{tab_ext, tab-get_or}
use Rattle.members.specs.Members.{size}
use Rattle.shares.specs.Layout.{width, word_place, tag_place, key_place, assembled, word, share_word, share_words, tag_word_at, key_α, key_β}

module _ (t d : ℕ) (words tags keys : List ℕ) (w : length words ≡ d) (g : length tags ≡ size t) where
  parts : assembled words tags keys ≡ words ++ (tags ++ keys)
  unfolding assembled
  parts = append_assoc words tags keys

  pub assembled-length : length keys ≡ 2 * size t → length (assembled words tags keys) ≡ width t d
  unfolding width
  assembled-length k =
      ap length parts ∙ length-append words (tags ++ keys) ∙ ap₂ ◌+◌ w (length-append tags keys ∙ ap₂ ◌+◌ g k) ∙ omega arith

  -- share word k, the tag for member j, word k of the keys
  assembled-word : (k : ℕ) → k < d → get_or (assembled words tags keys) (word_place k) 0 ≡ get_or words k 0
  assembled-word k h = ap (λ (l : List ℕ). get_or l k 0) parts ∙ get_or-append words (tags ++ keys) 0 k (omega (arith, w))

  assembled-tag : (j : ℕ) → j < size t → get_or (assembled words tags keys) (tag_place d j) 0 ≡ get_or tags j 0
  assembled-tag j h =
      ap (λ (l : List ℕ). get_or l (d + j) 0) parts ∙ get_d_after words (tags ++ keys) d j 0 w ∙ get_or-append tags keys 0 j (omega (arith, g))

  assembled_key : (k p : ℕ) → p ≡ key_place t d 0 + k → get_or (assembled words tags keys) p 0 ≡ get_or keys k 0
  assembled_key k p e =
      let place : p ≡ d + (size t + k) = omega arith in
      ap₂ (λ (l : List ℕ) (q : ℕ). get_or l q 0) parts place
      ∙ get_d_after words (tags ++ keys) d (size t + k) 0 w
      ∙ get_d_after tags keys (size t) k 0 g

pub assembled_every : {P : ℕ → Type 0} {words tags keys : List ℕ} → Every P words → Every P tags → Every P keys → Every P (assembled words tags keys)
unfolding assembled
assembled_every a b c = every_append (every_append a b) c

-- a word of one of n shares, each from its parts
module _ (t d : ℕ) (words tags keys : ℕ → List ℕ) (w : (i : ℕ) → length (words i) ≡ d) (g : (i : ℕ) → length (tags i) ≡ size t)
    (k : (i : ℕ) → length (keys i) ≡ 2 * size t) where
  share : ℕ → List ℕ
  share i = assembled (words i) (tags i) (keys i)

  abbrev all : List ℕ
  all = concat (tab (size t) (λ i. assembled (words i) (tags i) (keys i)))

  module _ (i : ℕ) (h : i < size t) where
    pub word_is : (p : ℕ) → p < width t d → word t d all i p ≡ get_or (assembled (words i) (tags i) (keys i)) p 0
    unfolding word share
    word_is p q =
        get_or-concat (size t) (width t d) share (λ i h. assembled-length t d (words i) (tags i) (keys i) (w i) (g i) (k i)) i p 0 h q

    pub share-word_is : (k : ℕ) → k < d → share_word t d all i k ≡ get_or (words i) k 0
    unfolding width
    share-word_is k q = word_is (word_place k) (omega arith) ∙ assembled-word t d (words i) (tags i) (keys i) (w i) (g i) k q

    pub share_words_are : share_words t d all i ≡ words i
    unfolding share_words
    share_words_are =
        tab_ext d (share_word t d all i) (λ k. get_or (words i) k 0) share-word_is
        ∙ ap (λ (n : ℕ). tab n (λ k. get_or (words i) k 0)) (sym (w i))
        ∙ tab-get_or (words i) 0

    pub tag_is : (j : ℕ) → j < size t → tag_word_at t d all i j ≡ get_or (tags i) j 0
    unfolding width tag_word_at
    tag_is j q = word_is (tag_place d j) (omega arith) ∙ assembled-tag t d (words i) (tags i) (keys i) (w i) (g i) j q

    pub α_is : (j : ℕ) → j < size t → key_α t d all i j ≡ get_or (keys i) (2 * j) 0
    unfolding width key_α
    α_is j q = word_is (key_place t d j) (omega arith) ∙ assembled_key t d (words i) (tags i) (keys i) (w i) (g i) (2 * j) (key_place t d j) (omega arith)

    pub β_is : (j : ℕ) → j < size t → key_β t d all i j ≡ get_or (keys i) (2 * j + 1) 0
    unfolding width key_β
    β_is j q = word_is (key_place t d j + 1) (omega arith) ∙ assembled_key t d (words i) (tags i) (keys i) (w i) (g i) (2 * j + 1) (key_place t d j + 1) (omega arith)
