-- Two buffers with the same words at a member's share have the same share words, tags and keys there.
-- Assumes nothing.
use mathlib.Core.Path.{◌≡◌}
use mathlib.Core.List.{List}
use Prim.Native.Nat.{ℕ, ◌+◌, ◌*◌, ◌<◌}
use native.Mathlib.Omega.{arith}
use Rattle.lists.proofs.Tabulate.{tab_ext}
use Rattle.members.specs.Members.{size}
use Rattle.shares.specs.Layout.{width, word, share_words, tag_word_at, key_α, key_β}

module _ (t d : ℕ) (a b : List ℕ) (i : ℕ) (same : (k : ℕ) → k < width t d → word t d a i k ≡ word t d b i k) where
  pub same_words : share_words t d a i ≡ share_words t d b i
  unfolding share_words width
  same_words = tab_ext d (word t d a i) (word t d b i) (λ k h. same k (omega arith))

  module _ (j : ℕ) (h : j < size t) where
    pub same_tag : tag_word_at t d a i j ≡ tag_word_at t d b i j
    unfolding tag_word_at width
    same_tag = same (d + j) (omega arith)

    pub same_α : key_α t d a i j ≡ key_α t d b i j
    unfolding key_α width
    same_α = same (d + size t + 2 * j) (omega arith)

    pub same_β : key_β t d a i j ≡ key_β t d b i j
    unfolding key_β width
    same_β = same (d + size t + 2 * j + 1) (omega arith)
