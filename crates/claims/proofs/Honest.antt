-- Members whose shares are handed in as dealt are usable, accept one another, and survive, for any points.
-- Assumes nothing.
use mathlib.Core.Path.{◌≡◌, refl, sym, ap, ap₂, ◌∙◌, subst}
use mathlib.Core.Logic.{inl, inr}
use mathlib.Core.Bool.{true, ◌&&◌, ◌||◌}
use mathlib.Core.List.{List}
use Prim.Native.Nat.{ℕ, suc, ◌^◌, ◌≤◌, ◌<◌}
use native.Mathlib.Nat.{le_trans, le_of_eq}
use native.Mathlib.Omega.{arith}
use lib.Dec.{eqb}
use lib.ListN.{length}
use borrow.Author.Tests.{eq-eqb, eqb-true}
use Rattle.lists.proofs.Bools.{clash, and_intro, or_left, or_yes, or_elim}
use Rattle.lists.proofs.Count.{count_mono}
use Rattle.lists.proofs.Every.{Every}
use Rattle.field.specs.Field.{prime}
use Rattle.mac.specs.Tag.{tag}
use Rattle.members.specs.Members.{size, has, set_of, card}
use Rattle.members.proofs.Masks.{subsets_equal, has-set_of, set_of-lt, has-zero, card_mono, card_some}
use Rattle.shares.specs.Layout.{tagged, share_words, tag_word_at, key_α, key_β}
use Rattle.shares.proofs.Same.{same_words, same_tag, same_α, same_β}
use Rattle.pruning.specs.Pruning.{Closed, survivors}
use Rattle.pruning.proofs.Largest.{survivors_largest}
use Rattle.dealing.specs.Dealing.{dealt_shares}
use Rattle.dealing.proofs.Laws.{tag_holds_lem, word-field}
use Rattle.voting.specs.Votes.{usable, accepts, vote_rows}
use Rattle.voting.proofs.Meaning.{usable-lt, usable_intro, usable_present, right_tag, accepts_intro}
use Rattle.reconstruction.proofs.Meaning.{votes_are}
use Rattle.claims.specs.Demands.{AsDealt}

-- the right tag of shares that are as dealt is that of the dealt ones, for whatever day
pub right_same : (t d day present : ℕ) (dealt words : List ℕ) (i j : ℕ) → i < size t → AsDealt t d present dealt words i → AsDealt t d present dealt words j
    → right_tag t d day words i j ≡ right_tag t d day dealt i j
right_same t d day present dealt words i j hi si sj =
    ap₂ (λ (a b : ℕ). tag a b (tagged day (share_words t d words i))) (same_α t d words dealt j sj.same i hi) (same_β t d words dealt j sj.same i hi)
    ∙ ap (λ (ws : List ℕ). tag (key_α t d dealt j i) (key_β t d dealt j i) (tagged day ws)) (same_words t d words dealt i si.same)

module _ (xs : List ℕ) (t day : ℕ) (secret random : List ℕ) (field : Every (λ a. a < prime) random) (present : ℕ) (words : List ℕ) where
  -- member i's share is handed in as dealt
  abbrev Same : ℕ → Type 0
  Same i = AsDealt t (length secret) present (dealt_shares xs t day secret random) words i

  abbrev able : ℕ
  able = usable t (length secret) present words

  abbrev rows : List ℕ
  rows = vote_rows t (length secret) day able words

  pub honest_usable : (i : ℕ) → i < size t → Same i → has able i ≡ true
  honest_usable i h s =
      usable_intro t (length secret) present words i h s.is_present
      (λ k l. subst (λ (n : ℕ). n < prime) (sym (s.same k l)) (word-field xs t day secret random field i k))

  honest_tag : (i j : ℕ) → i < size t → j < size t → Same i → Same j → tag_word_at t (length secret) words i j ≡ right_tag t (length secret) day words i j
  honest_tag i j hi hj si sj =
      let d : ℕ = length secret in
      let dealt : List ℕ = dealt_shares xs t day secret random in
      same_tag t d words dealt i si.same j hj
      ∙ tag_holds_lem xs t day secret random i j hi hj
      ∙ sym (right_same t d day present dealt words i j hi si sj)

  pub honest_accepts : (i j : ℕ) → i < size t → j < size t → Same i → Same j → accepts t (length secret) day able words j i ≡ true
  honest_accepts i j hi hj si sj =
      accepts_intro t (length secret) day able words j i (honest_usable i hi si) (honest_usable j hj sj) (honest_tag i j hi hj si sj)

  -- where all that are present are as dealt, all of them are usable
  pub all-usable : present < 2 ^ size t → ((i : ℕ) → i < size t → has present i ≡ true → Same i) → able ≡ present
  all-usable inside as_dealt =
      subsets_equal (size t) able present (usable-lt t (length secret) present words) inside (λ i h u. usable_present t (length secret) present words i h u)
      (λ i h e. honest_usable i h (as_dealt i h e))

  module _ (honest : ℕ) (many : suc t ≤ card (size t) honest) (as_dealt : (i : ℕ) → i < size t → has honest i ≡ true → Same i) where
    -- the honest members and one more
    abbrev group : ℕ → ℕ
    group i = set_of (size t) (λ j. has honest j || eqb j i)

    group_same : (i m : ℕ) → Same i → m < size t → has (group i) m ≡ true → Same m
    group_same i m s hm g =
        elim (or_elim (has honest m) (eqb m i) (sym (has-set_of (size t) (λ j. has honest j || eqb j i) m hm) ∙ g)) [
          | inl e ↦ as_dealt m hm e
          | inr e ↦ subst Same (sym (eqb-true m i e)) s
        ]

    group_closed : (i : ℕ) → Same i → Closed t rows (group i)
    unfolding card
    group_closed i s =
        record {
          accepted = λ m hm g.
              le_trans many
              (le_trans
              (count_mono (size t) (has honest) (λ j. accepts t (length secret) day able words j m && has (group i) j)
              (λ j hj e. and_intro (honest_accepts m j hm hj (group_same i m s hm g) (as_dealt j hj e))
              (has-set_of (size t) (λ k. has honest k || eqb k i) j hj ∙ or_left (has honest j) (eqb j i) e)))
              (le_of_eq (sym (votes_are t (length secret) day able words m hm (group i)))));
        }

    pub survives : (i : ℕ) → i < size t → Same i → has (survivors t rows) i ≡ true
    survives i h s =
        (survivors_largest t rows).contains (group i) (set_of-lt (size t) (λ j. has honest j || eqb j i)) (group_closed i s) i h
        (has-set_of (size t) (λ j. has honest j || eqb j i) i h ∙ or_yes (has honest i) (eqb i i) (eq-eqb i i refl))

    pub many_survive : suc t ≤ card (size t) (survivors t rows)
    many_survive = le_trans many (card_mono (size t) honest (survivors t rows) (λ i h e. survives i h (as_dealt i h e)))

    pub some_survive : survivors t rows ≡ 0 → ⊥
    some_survive e =
        let r : (i : ℕ) × (i < size t) × (has (survivors t rows) i ≡ true) = card_some (size t) (survivors t rows) (omega (arith, many_survive)) in
        clash r.2 (ap (λ (m : ℕ). has m r.0) e ∙ has-zero r.0)
