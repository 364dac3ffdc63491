-- Demand 2, for any distinct points, and so for the members' own: from demand 3, where the honest members are all that are present.
-- Assumes nothing.
use mathlib.Core.Path.{◌≡◌, sym, ap, ◌∙◌, subst}
use mathlib.Core.Bool.{Bool, true, ◌&&◌, not}
use mathlib.Core.List.{List}
use Prim.Native.Nat.{ℕ, suc, ◌+◌, ◌-◌, ◌*◌, ◌/◌, ◌^◌, ◌≤◌, ◌<◌, zero-le}
use native.Mathlib.Nat.{le_trans, le_of_eq}
use native.Mathlib.Omega.{arith}
use lib.Dec.{eqb}
use lib.ListN.{length}
use borrow.Author.Tests.{eq-eqb}
use Rattle.lists.proofs.Bools.{and_intro, no_exception, same_test}
use Rattle.lists.proofs.Count.{count_none}
use Rattle.lists.proofs.Every.{Every}
use Rattle.lists.proofs.Tabulate.{all_intro}
use Rattle.field.specs.Field.{prime}
use Rattle.polynomial.proofs.Roots.{Distinct}
use Rattle.members.specs.Members.{size, own_points, has, card}
use Rattle.members.proofs.Masks.{set_of_ext, set_of-has, subsets_equal, card-set_of, card_mono}
use Rattle.shares.proofs.Places.{word_inside}
use Rattle.shares.specs.Layout.{share_word}
use Rattle.decoding.specs.Decoding.{surplus, agreeing}
use Rattle.decoding.proofs.Points.{own_distinct}
use Rattle.members.proofs.Points.{length_own}
use Rattle.decoding.proofs.Unique.{agrees, agrees_member}
use Rattle.dealing.specs.Dealing.{polynomial, dealt_shares}
use Rattle.dealing.proofs.Laws.{Acceptable}
use Rattle.voting.specs.Votes.{usable, vote_rows, Pairs, pairs}
use Rattle.reconstruction.specs.Reconstruction.{Opened, is_quorum, required, finish, Answered}
use Rattle.voting.proofs.Counts.{same_pairs}
use Rattle.voting.proofs.Meaning.{usable_present}
use Rattle.voting.proofs.Totals.{pairs-unread, pairs_compared, none_mismatched_lem}
use Rattle.reconstruction.proofs.Meaning.{survivor_usable}
use Rattle.reconstruction.proofs.Opening.{required_least}
use Rattle.claims.specs.Demands.{AsDealt, altered, none_mismatched, Sound, Demand2}
use Rattle.claims.proofs.Honest.{honest_accepts, all-usable}
use Rattle.claims.proofs.Demand3.{kept, kept_agrees, dealt_fits, dealt-zero, sound, in_range, dealt_is, is_a_day, second_half}

-- a member whose share is as dealt has its dealt share words
as_dealt_kept : (t d present : ℕ) (dealt words : List ℕ) (i : ℕ) → AsDealt t d present dealt words i → kept t d dealt words i ≡ true
as_dealt_kept t d present dealt words i s =
    all_intro d (λ k. eqb (share_word t d words i k) (share_word t d dealt i k))
    (λ k h. eq-eqb (share_word t d words i k) (share_word t d dealt i k) (s.same k (word_inside t d k h)))

module _ (xs : List ℕ) (distinct : Distinct xs) (t day : ℕ) (long : length xs ≡ size t) (secret random : List ℕ)
    (secret_words : Every (λ a. a < prime) secret) (random_words : Every (λ a. a < prime) random)
    (present quorum : ℕ) (words : List ℕ) (inside : present < 2 ^ size t) (is_a_quorum : is_quorum t quorum ≡ true)
    (met : required t quorum ≤ card (size t) (usable t (length secret) present words))
    (as_dealt : (i : ℕ) → i < size t → has present i ≡ true → AsDealt t (length secret) present (dealt_shares xs t day secret random) words i) where
  abbrev able : ℕ
  able = usable t (length secret) present words

  abbrev answer : Opened
  answer = finish xs t (length secret) quorum able (vote_rows t (length secret) day able words) (share_word t (length secret) words)

  many : suc t ≤ card (size t) present
  many =
      le_trans (required_least t quorum is_a_quorum)
      (le_trans met (card_mono (size t) (usable t (length secret) present words) present (λ i h u. usable_present t (length secret) present words i h u)))

  known : Sound xs t (length secret) day present secret (dealt_shares xs t day secret random) words answer
  known = sound xs distinct t day long secret random secret_words random_words present quorum words met present many as_dealt

  all_survive : answer.survivors ≡ present
  all_survive =
      subsets_equal (size t) answer.survivors present known.largest.below inside
      (λ i h e. usable_present t (length secret) present words i h
      (survivor_usable t (length secret) day (usable t (length secret) present words) words answer.survivors known.largest.closed i h e))
      (λ i h e. known.holds i h (as_dealt i h e))

  survivor_kept : (i : ℕ) → i < size t → has answer.survivors i ≡ true → kept t (length secret) (dealt_shares xs t day secret random) words i ≡ true
  survivor_kept i h e =
      as_dealt_kept t (length secret) present (dealt_shares xs t day secret random) words i (as_dealt i h (ap (λ (m : ℕ). has m i) (sym all_survive) ∙ e))

  none_altered : card (size t) (altered t (length secret) (dealt_shares xs t day secret random) words answer.survivors) ≡ 0
  unfolding altered
  none_altered =
      let q : ℕ → Bool = λ i. has answer.survivors i && not (kept t (length secret) (dealt_shares xs t day secret random) words i) in
      card-set_of (size t) q
      ∙ count_none (size t) q (λ i h. no_exception (has answer.survivors i) (kept t (length secret) (dealt_shares xs t day secret random) words i) (survivor_kept i h))

  -- all survivors agree with the dealt polynomials
  all_agree : agreeing xs t (length secret) (share_word t (length secret) words) answer.survivors (polynomial t secret random) ≡ answer.survivors
  unfolding agreeing
  all_agree =
      let d : ℕ = length secret in
      let f : ℕ → List ℕ = polynomial t secret random in
      set_of_ext (size t) (agrees xs d (share_word t d words) answer.survivors f) (has answer.survivors)
      (λ i h. same_test (agrees xs d (share_word t d words) answer.survivors f i) (has answer.survivors i)
      (agrees_member xs d (share_word t d words) answer.survivors f i)
      (λ e. kept_agrees xs t day secret random words answer.survivors i h (and_intro e (survivor_kept i h e))))
      ∙ set_of-has (size t) answer.survivors known.largest.below

  opens_dealt : answer ≡ record { number = 0; survivors = present; agreeing = present; secret = secret }
  opens_dealt =
      let few : card (size t) (altered t (length secret) (dealt_shares xs t day secret random) words answer.survivors) ≤ surplus t (card (size t) answer.survivors) / 2 =
      le_trans (le_of_eq none_altered) zero-le in
      let left : suc t ≤ card (size t) answer.survivors = subst (λ (s : ℕ). suc t ≤ card (size t) s) (sym all_survive) many in
      let r = known.answers (polynomial t secret random) (dealt_fits xs t day secret random words answer.survivors left few) in
      let same : answer.agreeing ≡ present = r.2 ∙ all_agree ∙ all_survive in
      let words_are : answer.secret ≡ secret = r.1 ∙ dealt-zero t secret random secret_words in
      λ i. record { number = r.0 i; survivors = all_survive i; agreeing = same i; secret = words_are i }

  -- no vote is mismatched
  pairs-dealt : pairs t (length secret) day able words ≡ none_mismatched (size t) (card (size t) present)
  pairs-dealt =
      let p : Pairs = pairs t (length secret) day able words in
      let u : ℕ = card (size t) present in
      let same : card (size t) able ≡ u = ap (card (size t)) (all-usable xs t day secret random random_words present words inside as_dealt) in
      let read_are : p.accepted + p.mismatched ≡ u * u = pairs_compared t (length secret) day able words ∙ ap (λ (c : ℕ). c * c) same in
      let unread_are : p.unread ≡ size t * size t - u * u = pairs-unread t (length secret) day able words ∙ ap (λ (c : ℕ). size t * size t - c * c) same in
      let honest : (i : ℕ) → i < size t → has able i ≡ true → AsDealt t (length secret) present (dealt_shares xs t day secret random) words i =
      λ i h e. as_dealt i h (usable_present t (length secret) present words i h e) in
      let none : p.mismatched ≡ 0 =
      none_mismatched_lem t (length secret) day able words (λ i j h k e f. honest_accepts xs t day secret random random_words present words i j h k (honest i h e) (honest j k f)) in
      same_pairs (omega (arith, read_are, none)) none unread_are

  -- the answer is the secret, with the counts
  pub answers_dealt :
      (let a : Answered = record { opened = answer; pairs = pairs t (length secret) day able words } in a)
      ≡ record {
        opened = record { number = 0; survivors = present; agreeing = present; secret = secret };
        pairs = none_mismatched (size t) (card (size t) present);
      }
  answers_dealt i = record { opened = opens_dealt i; pairs = pairs-dealt i }

-- Demand 2.
pub demand2 : Demand2
unfolding Demand2
demand2 t day present quorum secret random dealt words dealing handed as_dealt =
    let d : ℕ = length secret in
    let r : Acceptable t day secret random dealing.buffer = in_range t day secret random dealt dealing in
    second_half t day secret random dealt dealing day present quorum words (is_a_day t day secret random dealt dealing) handed
    ∙ answers_dealt (own_points t) (own_distinct t r.threshold_high) t day (length_own t) secret random r.secret_words r.random_words present quorum words
    handed.n_members handed.is_a_quorum handed.met
    (subst (λ (dl : List ℕ). (i : ℕ) → i < size t → has present i ≡ true → AsDealt t d present dl words i) (dealt_is t day secret random dealt dealing) as_dealt)
