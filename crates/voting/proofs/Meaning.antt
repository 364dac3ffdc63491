-- What the masks of the votes stand for: who is usable, and who accepts whom.
-- Assumes nothing.
use mathlib.Core.Path.{◌≡◌, sym, ap, ◌∙◌}
use mathlib.Core.Bool.{true, ◌&&◌}
use mathlib.Core.List.{List}
use Prim.Native.Nat.{ℕ, ◌^◌, ◌<◌}
use lib.ListN.{get_or}
use borrow.Author.Tests.{lt-ltb, ltb-true, eq-eqb, eqb-true}
use Rattle.lists.proofs.Bools.{and_intro, and_left, and_right}
use Rattle.lists.proofs.Tabulate.{get_or-tab, all_intro, all_elim}
use Rattle.field.specs.Field.{prime, is_field_word}
use Rattle.mac.specs.Tag.{tag}
use Rattle.members.specs.Members.{size, has, set_of}
use Rattle.members.proofs.Masks.{has-set_of, set_of-lt}
use Rattle.shares.specs.Layout.{tagged, width, word, share_words, tag_word_at, key_α, key_β}
use Rattle.voting.specs.Votes.{field_share, usable, tag_holds, vote, accepts, vote_rows}
use Rattle.voting.proofs.Counts.{is_accepted}

pub usable-lt : (t d present : ℕ) (words : List ℕ) → usable t d present words < 2 ^ size t
unfolding usable
usable-lt t d present words = set_of-lt (size t) (λ i. has present i && field_share t d words i)

module _ (t d present : ℕ) (words : List ℕ) (i : ℕ) (h : i < size t) where
  has-usable : has (usable t d present words) i ≡ has present i && field_share t d words i
  unfolding usable
  has-usable = has-set_of (size t) (λ j. has present j && field_share t d words j) i h

  pub usable_intro : has present i ≡ true → ((k : ℕ) → k < width t d → word t d words i k < prime) → has (usable t d present words) i ≡ true
  unfolding field_share
  usable_intro p w =
      has-usable ∙ and_intro p (all_intro (width t d) (λ k. is_field_word (word t d words i k)) (λ k l. lt-ltb (word t d words i k) prime (w k l)))

  pub usable_present : has (usable t d present words) i ≡ true → has present i ≡ true
  usable_present u = and_left (has present i) (field_share t d words i) (sym has-usable ∙ u)

  pub usable_words : has (usable t d present words) i ≡ true → (k : ℕ) → k < width t d → word t d words i k < prime
  unfolding field_share
  usable_words u k l =
      ltb-true (word t d words i k) prime
      (all_elim (width t d) (λ k. is_field_word (word t d words i k)) (and_right (has present i) (field_share t d words i) (sym has-usable ∙ u)) k l)

-- the tag that tag(i,j) has to be
abbrev pub right_tag : ℕ → ℕ → ℕ → List ℕ → ℕ → ℕ → ℕ
right_tag t d day words i j = tag (key_α t d words j i) (key_β t d words j i) (tagged day (share_words t d words i))

module _ (t d day able : ℕ) (words : List ℕ) where
  module _ (j i : ℕ) where
    -- j accepts i: both are usable, and tag(i,j) holds
    pub accepts_is : accepts t d day able words j i ≡ has able i && has able j && tag_holds t d day words i j
    unfolding accepts vote
    accepts_is = is_accepted (has able i && has able j) (tag_holds t d day words i j)

    pub accepts_intro : has able i ≡ true → has able j ≡ true → tag_word_at t d words i j ≡ right_tag t d day words i j → accepts t d day able words j i ≡ true
    unfolding tag_holds
    accepts_intro p q e = accepts_is ∙ and_intro (and_intro p q) (eq-eqb (tag_word_at t d words i j) (right_tag t d day words i j) e)

    pub accepts-tag : accepts t d day able words j i ≡ true → tag_word_at t d words i j ≡ right_tag t d day words i j
    unfolding tag_holds
    accepts-tag a =
        eqb-true (tag_word_at t d words i j) (right_tag t d day words i j) (and_right (has able i && has able j) (tag_holds t d day words i j) (sym accepts_is ∙ a))

    pub accepts-usable : accepts t d day able words j i ≡ true → has able i && has able j ≡ true
    accepts-usable a = and_left (has able i && has able j) (tag_holds t d day words i j) (sym accepts_is ∙ a)

  module _ (i : ℕ) (h : i < size t) where
    -- row i is the set of those who accept i
    pub row_is : get_or (vote_rows t d day able words) i 0 ≡ set_of (size t) (λ j. accepts t d day able words j i)
    unfolding vote_rows
    row_is = get_or-tab (size t) (λ i. set_of (size t) (λ j. accepts t d day able words j i)) i 0 h

    pub has_row : (j : ℕ) → j < size t → has (get_or (vote_rows t d day able words) i 0) j ≡ accepts t d day able words j i
    has_row j l = ap (λ (m : ℕ). has m j) row_is ∙ has-set_of (size t) (λ j. accepts t d day able words j i) j l
