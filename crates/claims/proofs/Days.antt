-- Shares of another day: no tag is that of this day unless its α is 0, so nobody accepts anybody, and nobody survives. For any points.
-- Assumes nothing.
use mathlib.Core.Path.{◌≡◌, refl, sym, ap, ◌∙◌, subst}
use mathlib.Core.Logic.{inl, inr}
use mathlib.Core.Bool.{true, false, ◌&&◌, not}
use mathlib.Core.List.{List}
use Prim.Native.Nat.{ℕ, ◌+◌, ◌-◌, ◌*◌, ◌^◌, ◌≤◌, ◌<◌}
use native.Mathlib.Nat.{le_trans, le_of_eq}
use native.Mathlib.Omega.{arith}
use lib.Dec.{eqb, lit<, lit≤}
use lib.ListN.{length}
use borrow.Author.Tests.{eq-eqb, eqb-false}
use Rattle.lists.specs.Tabulate.{tab, all, count, keep, each, first, concat, choose}
use Rattle.lists.proofs.Bools.{test, clash, and_left, and_right}
use Rattle.lists.proofs.Every.{Every}
use Rattle.lists.proofs.Tabulate.{all_elim}
use Rattle.field.specs.Field.{prime, difference, product, power, inverse}
use Rattle.field.proofs.Congruence.{◌≈◌, eq_same}
use Rattle.polynomial.specs.Polynomial.{eval, value, linear, slopes, interpolate}
use Rattle.mac.specs.Tag.{tag}
use Rattle.mac.proofs.Tags.{tag-first}
use Rattle.members.specs.Members.{size, own_points, bit, has, set_of, first_of, card, members_of}
use Rattle.members.proofs.Words.{size_31, first_of-lt, card-first_of, set_of_none}
use Rattle.shares.specs.Layout.{width, assembled, word, share_word, share_words, tag_word_at, key_α, key_β}
use Rattle.shares.specs.Sample.{sample}
use Rattle.shares.proofs.Same.{same_tag}
use Rattle.shares.proofs.Tests.{day_below}
use Rattle.pruning.specs.Pruning.{votes, round, rounds, survivors}
use Rattle.pruning.proofs.Largest.{no_votes}
use Rattle.decoding.specs.Decoding.{surplus, need, agreeing, through, find}
use Rattle.dealing.specs.Dealing.{random_length, polynomial, dealt_α, dealt_β, dealt_words, dealt_tag, dealt_share, dealt_shares, deal}
use Rattle.dealing.proofs.Laws.{tag_holds_lem, word-field, length-shares, Acceptable}
use Rattle.voting.specs.Votes.{field_share, usable, tag_holds, vote, is_of, accepts, vote_rows, vote_table, Pairs, count_of, kinds, pairs}
use Rattle.voting.proofs.Counts.{same_pairs}
use Rattle.voting.proofs.Meaning.{usable_present, right_tag, accepts-tag, accepts-usable, row_is}
use Rattle.voting.proofs.Totals.{pairs-unread, pairs_compared, none_accepted}
use Rattle.reconstruction.specs.Reconstruction.{unopened, is_quorum, required, at_zero_of, opened_from, finish, Answered, reconstruct}
use Rattle.reconstruction.proofs.Opening.{finish_none, required_most}
use Rattle.claims.specs.Days.{NoZero, nobody, CompleteSet, AnotherDay, DayInstances}
use Rattle.claims.specs.Demands.{AsDealt}
use Rattle.claims.proofs.Demand3.{in_range, dealt_is, is_a_day, second_half}
use Rattle.claims.proofs.Honest.{right_same, all-usable}
use Rattle.claims.proofs.Instances.{as_tested, dealt_over}

module _ (xs : List ℕ) (t other : ℕ) (secret random : List ℕ) (field : Every (λ a. a < prime) random)
    (some : NoZero t (length secret) (dealt_shares xs t other secret random)) (day : ℕ) (apart : day ≈ other → ⊥)
    (present : ℕ) (words : List ℕ) (inside : present < 2 ^ size t)
    (as_dealt : (i : ℕ) → i < size t → has present i ≡ true → AsDealt t (length secret) present (dealt_shares xs t other secret random) words i) where
  abbrev d : ℕ
  d = length secret

  abbrev dealt : List ℕ
  dealt = dealt_shares xs t other secret random

  abbrev able : ℕ
  able = usable t d present words

  abbrev rows : List ℕ
  rows = vote_rows t d day able words

  -- an α that is dealt is not 0 modulo p
  not-zero : (i j : ℕ) → i < size t → j < size t → key_α t d dealt i j ≈ 0 → ⊥
  unfolding key_α
  not-zero i j h k e = some i j h k (eq_same (word-field xs t other secret random field i _) (omega arith) e)

  -- a tag of the other day is not the right one for this day
  no_tag : (i j : ℕ) → i < size t → j < size t → has present i ≡ true → has present j ≡ true → tag_word_at t d words i j ≡ right_tag t d day words i j → ⊥
  no_tag i j h k p q e =
      apart
      (tag-first (key_α t d dealt j i) (key_β t d dealt j i) day other (share_words t d dealt i) (not-zero j i k h)
      (sym (right_same t d day present dealt words i j h (as_dealt i h p) (as_dealt j k q))
      ∙ sym e
      ∙ same_tag t d words dealt i (as_dealt i h p).same j k
      ∙ tag_holds_lem xs t other secret random i j h k))

  -- so nobody accepts anybody
  no_vote : (i j : ℕ) → i < size t → j < size t → accepts t d day able words j i ≡ false
  no_vote i j h k =
      elim (test (accepts t d day able words j i)) [
        | inr e ↦ e
        | inl e ↦
            let both : has able i && has able j ≡ true = accepts-usable t d day able words j i e in
            absurd
            (no_tag i j h k (usable_present t d present words i h (and_left (has able i) (has able j) both))
            (usable_present t d present words j k (and_right (has able i) (has able j) both)) (accepts-tag t d day able words j i e))
      ]

  none_left : survivors t rows ≡ 0
  none_left =
      no_votes t rows (λ i h. row_is t d day able words i h ∙ set_of_none (size t) (λ j. accepts t d day able words j i) (λ j k. no_vote i j h k))

  -- the answer of the second half
  pub stale_answer : (quorum : ℕ) → required t quorum ≤ card (size t) able
      → (let a : Answered = record { opened = finish xs t d quorum able rows (share_word t d words); pairs = pairs t d day able words } in a)
      ≡ nobody (size t) d (card (size t) present)
  unfolding unopened
  stale_answer quorum met =
      let p : Pairs = pairs t d day able words in
      let u : ℕ = card (size t) present in
      let same : card (size t) able ≡ u = ap (card (size t)) (all-usable xs t other secret random field present words inside as_dealt) in
      let read_are : p.accepted + p.mismatched ≡ u * u = pairs_compared t d day able words ∙ ap (λ (c : ℕ). c * c) same in
      let unread_are : p.unread ≡ size t * size t - u * u = pairs-unread t d day able words ∙ ap (λ (c : ℕ). size t * size t - c * c) same in
      let none : p.accepted ≡ 0 = none_accepted t d day able words no_vote in
      let counts : p ≡ (nobody (size t) d u).pairs = same_pairs none (omega (arith, read_are, none)) unread_are in
      let opened : finish xs t d quorum able rows (share_word t d words) ≡ (nobody (size t) d u).opened =
      finish_none xs t d quorum able rows (share_word t d words) met none_left in
      λ i. record { opened = opened i; pairs = counts i }

pub another_day : AnotherDay
unfolding AnotherDay
another_day t day other present quorum secret random dealt words stale some =
    let r : Acceptable t other secret random stale.dealing.buffer = in_range t other secret random dealt stale.dealing in
    let is : dealt ≡ dealt_shares (own_points t) t other secret random = dealt_is t other secret random dealt stale.dealing in
    let apart : day ≈ other → ⊥ = λ e. stale.another (eq_same (day_below day stale.is_a_day) (day_below other (is_a_day t other secret random dealt stale.dealing)) e) in
    second_half t other secret random dealt stale.dealing day present quorum words stale.is_a_day stale.handed
    ∙ stale_answer (own_points t) t other secret random r.random_words (subst (NoZero t (length secret)) is some) day apart present words
    stale.handed.n_members
    (subst (λ (dl : List ℕ). (i : ℕ) → i < size t → has present i ≡ true → AsDealt t (length secret) present dl words i) is stale.as_dealt)
    quorum stale.handed.met

-- a complete set as it was dealt: all are usable, and meet any quorum
pub complete_set : CompleteSet
unfolding CompleteSet AnotherDay
complete_set t day other quorum secret random dealt dealing some dated another is_a_quorum =
    let d : ℕ = length secret in
    let n : ℕ = size t in
    let r : Acceptable t other secret random dealing.buffer = in_range t other secret random dealt dealing in
    let is : dealt ≡ dealt_shares (own_points t) t other secret random = dealt_is t other secret random dealt dealing in
    let few : n ≤ 32 = omega (arith, size_31 t r.threshold_high) in
    let whole : card n (first_of n) ≡ n = card-first_of n few in
    let as_dealt : (i : ℕ) → i < n → has (first_of n) i ≡ true → AsDealt t d (first_of n) dealt dealt i =
    λ i h e. record { is_present = e; same = λ k l. refl } in
    let usable_are : usable t d (first_of n) dealt ≡ first_of n =
    all-usable (own_points t) t other secret random r.random_words (first_of n) dealt (first_of-lt n few)
    (subst (λ (dl : List ℕ). (i : ℕ) → i < n → has (first_of n) i ≡ true → AsDealt t d (first_of n) dl dealt i) is as_dealt) in
    another_day t day other (first_of n) quorum secret random dealt dealt
    (record {
      dealing = dealing;
      is_a_day = dated;
      another = another;
      handed = record {
        n_shares = ap length is ∙ length-shares (own_points t) t other secret random;
        n_members = first_of-lt n few;
        is_a_quorum = is_a_quorum;
        met = le_trans (required_most t quorum r.threshold_low is_a_quorum) (le_of_eq (sym (ap (card n) usable_are ∙ whole)));
      };
      as_dealt = as_dealt;
    })
    some
    ∙ ap (nobody n d) whole

-- one test of all keys
no_zero_tested : (t d : ℕ) (dealt : List ℕ) → all (size t) (λ i. all (size t) (λ j. not (eqb (key_α t d dealt i j) 0))) ≡ true → NoZero t d dealt
no_zero_tested t d dealt h i j k l e =
    clash (all_elim (size t) (λ j. not (eqb (key_α t d dealt i j) 0)) (all_elim (size t) (λ i. all (size t) (λ j. not (eqb (key_α t d dealt i j) 0))) h i k) j l)
    (ap not (eq-eqb (key_α t d dealt i j) 0 e))

pub day_instances : DayInstances
unfolding tab all count keep each first concat choose difference product power inverse eval value linear slopes interpolate size own_points bit has
    set_of card members_of surplus need agreeing through find tag width word share_words tag_word_at key_α key_β votes round rounds survivors field_share usable
    tag_holds vote is_of accepts vote_rows vote_table count_of kinds pairs unopened is_quorum required at_zero_of opened_from finish reconstruct
    random_length polynomial dealt_α dealt_β dealt_words assembled dealt_tag dealt_share dealt_shares deal sample
day_instances =
    record {
      stale = search (lit<, lit≤, as_tested, dealt_over, eqb-false);
      no_zero = no_zero_tested 1 1 (sample 259) refl;
      refused = refl;
      stale_zero = search (lit<, lit≤, as_tested, dealt_over, eqb-false);
      opens = refl;
    }
