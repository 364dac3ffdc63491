-- Two dealings of equal length, at the same points, for one day and with the same key words: a member with the same share words has the same share, and with
-- the same polynomials all random words are the same.
-- Assumes nothing.
use mathlib.Core.Path.{◌≡◌, sym, ap, ◌∙◌}
use mathlib.Core.List.{List, [], ◌∷◌}
use Prim.Native.Nat.{ℕ, ◌+◌, ◌*◌, ◌<◌}
use native.Mathlib.Nat.{add_assoc}
use lib.ListN.{length, get_or, drop}
use lib.Seq.{get_or-drop}
use Rattle.lists.specs.Tabulate.{tab}
use Rattle.lists.proofs.Blocks.{blocks_same}
use Rattle.lists.proofs.Tabulate.{tab_ext}
use Rattle.members.specs.Members.{size}
use Rattle.dealing.specs.Dealing.{polynomial, dealt_α, dealt_β, dealt_words, dealt_tag, dealt_share}

-- the secrets a and b, as long as each other, with the random words ra and rb
module _ (t : ℕ) (a b ra rb : List ℕ) (long : length a ≡ length b) (keys : drop (t * length a) ra ≡ drop (t * length a) rb) where
  -- the words after the coefficients are the same, and so the keys
  word_after : (m : ℕ) → get_or ra (t * length a + m) 0 ≡ get_or rb (t * length b + m) 0
  word_after m =
      sym (get_or-drop (t * length a) ra m 0) ∙ ap (λ (l : List ℕ). get_or l m 0) keys ∙ get_or-drop (t * length a) rb m 0
      ∙ ap (λ (d : ℕ). get_or rb (t * d + m) 0) long

  dealt_α_lem : (i j : ℕ) → dealt_α t (length a) ra i j ≡ dealt_α t (length b) rb i j
  unfolding dealt_α
  dealt_α_lem i j = word_after (2 * (i * size t + j))

  dealt_β_lem : (i j : ℕ) → dealt_β t (length a) ra i j ≡ dealt_β t (length b) rb i j
  unfolding dealt_β
  dealt_β_lem i j =
      let m : ℕ = 2 * (i * size t + j) in
      ap (λ (p : ℕ). get_or ra p 0) (add_assoc (t * length a) m 1) ∙ word_after (m + 1) ∙ ap (λ (p : ℕ). get_or rb p 0) (sym (add_assoc (t * length b) m 1))

  pub share_is_same : (xs : List ℕ) (day i : ℕ) → dealt_words xs t a ra i ≡ dealt_words xs t b rb i → dealt_share xs t day a ra i ≡ dealt_share xs t day b rb i
  unfolding dealt_share dealt_tag
  share_is_same xs day i words =
      let tags : tab (size t) (dealt_tag xs t day a ra i) ≡ tab (size t) (dealt_tag xs t day b rb i) =
      tab_ext (size t) (dealt_tag xs t day a ra i) (dealt_tag xs t day b rb i) (λ j h. rw (dealt_α_lem j i, dealt_β_lem j i, words)) in
      let pairs : tab (size t) (λ j. dealt_α t (length a) ra i j ∷ dealt_β t (length a) ra i j ∷ [])
      ≡ tab (size t) (λ j. dealt_α t (length b) rb i j ∷ dealt_β t (length b) rb i j ∷ []) =
      tab_ext (size t) (λ j. dealt_α t (length a) ra i j ∷ dealt_β t (length a) ra i j ∷ []) (λ j. dealt_α t (length b) rb i j ∷ dealt_β t (length b) rb i j ∷ [])
      (λ j h. rw (dealt_α_lem i j, dealt_β_lem i j)) in
      rw (words, tags, pairs)

-- the random words from the polynomials and the key words
pub same_random : (t : ℕ) (secret a b : List ℕ) → ((k : ℕ) → k < length secret → polynomial t secret a k ≡ polynomial t secret b k)
    → drop (t * length secret) a ≡ drop (t * length secret) b → a ≡ b
unfolding polynomial
same_random t secret a b same keys = blocks_same (length secret) t a b (λ k h. ap (drop 1) (same k h)) keys
