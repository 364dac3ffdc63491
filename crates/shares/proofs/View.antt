-- A member's share as the code lends it, and the words in it.
-- Assumes nothing.
use Rattle.std.proofs.Common.{◌≡◌, ℕ, ◌+◌, ◌-◌, ◌*◌, ◌≤◌, ◌<◌, List, length, take, drop, sym, ap, ◌∙◌, arith}
use Rattle.std.proofs.Math.ListN.{get_or}
use lib.Seq.{ext_get_or, get_or-take, length-take-le}
use Rattle.lists.specs.Tabulate.{tab}
use Rattle.lists.proofs.Tabulate.{length-tab, get_or-tab}
use Rattle.shares.specs.Layout.{width, word, share, share_word, share_words, tag_word_at, key_α, key_β}
use Rattle.shares.specs.declared.Shape.{Shape}
use Rattle.shares.proofs.Reading.{lent, share_at}

module _ (s : Shape) (words : List ℕ) (long : length words ≡ s.n * s.width) (i : ℕ) (h : i < s.n) where
  pub share_is : take (i * s.width + s.width - i * s.width) (drop (i * s.width) words) ≡ share s.t s.d words i
  share_is =
      lent (i * s.width) s.width words
      ∙ share_at s words long i h
      ∙ ap (λ (w : ℕ). tab w (word s.t s.d words i)) s.share

-- what stands in a share
module _ (s : Shape) (words l : List ℕ) (i : ℕ) (e : l ≡ share s.t s.d words i) where
  pub width_is : length l ≡ s.width
  width_is = ap length e ∙ length-tab (width s.t s.d) (word s.t s.d words i) ∙ sym s.share

  pub word_is : (k : ℕ) → k < s.width → get_or l k 0 ≡ word s.t s.d words i k
  word_is k b = ap (λ (m : List ℕ). get_or m k 0) e ∙ get_or-tab (width s.t s.d) (word s.t s.d words i) k 0 (omega (arith, s.share))

  pub tag_is : (j : ℕ) → j < s.n → get_or l (s.d + j) 0 ≡ tag_word_at s.t s.d words i j
  unfolding tag_word_at
  tag_is j b = word_is (s.d + j) (omega (arith, s.parts))

  pub α_is : (j : ℕ) → j < s.n → get_or l (s.d + s.n + 2 * j) 0 ≡ key_α s.t s.d words i j
  unfolding key_α
  α_is j b = word_is (s.d + s.n + 2 * j) (omega (arith, s.parts)) ∙ ap (word s.t s.d words i) (ap (λ (n : ℕ). s.d + n + 2 * j) s.members)

  pub β_is : (j : ℕ) → j < s.n → get_or l (s.d + s.n + 2 * j + 1) 0 ≡ key_β s.t s.d words i j
  unfolding key_β
  β_is j b = word_is (s.d + s.n + 2 * j + 1) (omega (arith, s.parts)) ∙ ap (word s.t s.d words i) (ap (λ (n : ℕ). s.d + n + 2 * j + 1) s.members)

  pub words_are : take s.d l ≡ share_words s.t s.d words i
  unfolding share_words
  words_are =
      let fits : s.d ≤ length l = omega (arith, width_is, s.parts) in
      ext_get_or 0 (take s.d l) (share_words s.t s.d words i)
      (length-take-le s.d l fits ∙ sym (length-tab s.d (share_word s.t s.d words i)))
      (λ k g.
      let k_in : k < s.d = omega (arith, g, length-take-le s.d l fits) in
      get_or-take s.d l k 0 k_in ∙ word_is k (omega (arith, s.parts)) ∙ sym (get_or-tab s.d (share_word s.t s.d words i) k 0 k_in))
