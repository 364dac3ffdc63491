-- Demand 3, for any distinct points, and so for the members' own.
-- Assumes nothing.
use mathlib.Core.Path.{◌≡◌, sym, ap, ◌∙◌, subst}
use mathlib.Core.Bool.{Bool, true, ◌&&◌, not}
use mathlib.Core.List.{List}
use Prim.Native.Nat.{ℕ, suc, ◌/◌, ◌≤◌, ◌<◌}
use native.Mathlib.Nat.{le_trans, le_of_eq}
use lib.Dec.{eqb}
use lib.ListN.{length, get_or}
use borrow.Author.Tests.{eq-eqb, eqb-true}
use Rattle.lists.specs.Tabulate.{all, count}
use Rattle.lists.proofs.Bools.{and_intro, and_left, and_right}
use Rattle.lists.proofs.Checks.{within_intro}
use Rattle.lists.proofs.Count.{count_mono, count_split}
use Rattle.lists.proofs.Every.{Every, every_at}
use Rattle.lists.proofs.Tabulate.{tab_ext, tab-get_or, all_intro, all_elim}
use Rattle.field.specs.Field.{prime}
use Rattle.polynomial.specs.Polynomial.{value}
use Rattle.polynomial.proofs.Roots.{Distinct}
use Rattle.members.specs.Members.{size, own_points, has, card}
use Rattle.members.proofs.Masks.{card-set_of}
use Rattle.shares.specs.Layout.{is_day, share_word}
use Rattle.pruning.specs.Pruning.{Largest, survivors}
use Rattle.pruning.proofs.Largest.{survivors_largest}
use Rattle.decoding.specs.Decoding.{surplus, Fits}
use Rattle.decoding.proofs.Points.{own_distinct}
use Rattle.members.proofs.Points.{length_own}
use Rattle.decoding.proofs.Unique.{need_most, agrees, card-agreeing}
use Rattle.dealing.specs.Dealing.{Dealt, polynomial, dealt_shares}
use Rattle.dealing.proofs.Laws.{polynomial_degree, polynomial-zero, word_value, field_words, Acceptable, accepted_in_range, accepted_shares}
use Rattle.voting.specs.Votes.{usable, vote_rows, pairs}
use Rattle.reconstruction.specs.Reconstruction.{Opened, required, at_zero_of, finish, Answered, reconstruct}
use Rattle.reconstruction.proofs.Opening.{finish_opens, reconstruct_finishes}
use Rattle.claims.specs.Demands.{Dealing, HandedIn, AsDealt, altered, Sound, Demand3}
use Rattle.claims.specs.General.{Answers, DealtAnywhere}
use Rattle.claims.proofs.Honest.{survives, many_survive, some_survive}
use Rattle.claims.proofs.Opening.{points_distinct, opened_answers}

-- the dealt polynomials have the secret at 0
pub dealt-zero : (t : ℕ) (secret random : List ℕ) → Every (λ a. a < prime) secret → at_zero_of (length secret) (polynomial t secret random) ≡ secret
unfolding at_zero_of
dealt-zero t secret random field =
    tab_ext (length secret) (λ k. value (polynomial t secret random k) 0) (λ k. get_or secret k 0)
    (λ k h. polynomial-zero t secret random k (every_at field k 0 h))
    ∙ tab-get_or secret 0

-- member i has its dealt share words
abbrev pub kept : ℕ → ℕ → List ℕ → List ℕ → ℕ → Bool
kept t d dealt words i = all d (λ k. eqb (share_word t d words i k) (share_word t d dealt i k))

module _ (xs : List ℕ) (t day : ℕ) (secret random words : List ℕ) (set : ℕ) where
  -- a member with its dealt share words agrees with the dealt polynomials
  pub kept_agrees : (i : ℕ) → i < size t → has set i && kept t (length secret) (dealt_shares xs t day secret random) words i ≡ true
      → agrees xs (length secret) (share_word t (length secret) words) set (polynomial t secret random) i ≡ true
  kept_agrees i h e =
      let d : ℕ = length secret in
      let dealt : List ℕ = dealt_shares xs t day secret random in
      and_intro (and_left (has set i) (kept t d dealt words i) e)
      (all_intro d (λ k. eqb (value (polynomial t secret random k) (get_or xs i 0)) (share_word t d words i k))
      (λ k l. eq-eqb (value (polynomial t secret random k) (get_or xs i 0)) (share_word t d words i k)
      (sym (word_value xs t day secret random i k h l)
      ∙ sym (eqb-true (share_word t d words i k) (share_word t d dealt i k)
      (all_elim d (λ j. eqb (share_word t d words i j) (share_word t d dealt i j)) (and_right (has set i) (kept t d dealt words i) e) k l)))))

  -- the dealt polynomials fit where at most half the surplus have altered share words
  pub dealt_fits : suc t ≤ card (size t) set
      → card (size t) (altered t (length secret) (dealt_shares xs t day secret random) words set) ≤ surplus t (card (size t) set) / 2
      → Fits xs t (length secret) (share_word t (length secret) words) set (polynomial t secret random)
  unfolding altered card
  dealt_fits many few =
      let d : ℕ = length secret in
      let dealt : List ℕ = dealt_shares xs t day secret random in
      let p : ℕ → Bool = λ i. has set i && kept t d dealt words i in
      let q : ℕ → Bool = λ i. has set i && not (kept t d dealt words i) in
      record {
        degree = λ k h. polynomial_degree t secret random k;
        enough =
            le_trans
            (need_most t (card (size t) set) (count (size t) p) (count (size t) q) many (count_split (size t) (has set) (kept t d dealt words))
            (le_trans (le_of_eq (sym (card-set_of (size t) q))) few))
            (le_trans (count_mono (size t) p (agrees xs d (share_word t d words) set (polynomial t secret random)) (λ i h e. kept_agrees i h e))
            (le_of_eq (sym (card-agreeing xs t d (share_word t d words) set (polynomial t secret random)))));
      }

module _ (xs : List ℕ) (distinct : Distinct xs) (t day : ℕ) (long : length xs ≡ size t) (secret random : List ℕ)
    (secret_words : Every (λ a. a < prime) secret) (random_words : Every (λ a. a < prime) random)
    (present quorum : ℕ) (words : List ℕ) (met : required t quorum ≤ card (size t) (usable t (length secret) present words))
    (honest : ℕ) (many : suc t ≤ card (size t) honest)
    (as_dealt : (i : ℕ) → i < size t → has honest i ≡ true → AsDealt t (length secret) present (dealt_shares xs t day secret random) words i) where
  abbrev rows : List ℕ
  rows = vote_rows t (length secret) day (usable t (length secret) present words) words

  -- what the second half of opening answers, and what is known of it
  opens : Answers xs t (length secret) (share_word t (length secret) words) (survivors t rows)
      (finish xs t (length secret) quorum (usable t (length secret) present words) rows (share_word t (length secret) words))
  opens =
      subst (Answers xs t (length secret) (share_word t (length secret) words) (survivors t rows))
      (sym (finish_opens xs t (length secret) quorum (usable t (length secret) present words) rows (share_word t (length secret) words) met
      (some_survive xs t day secret random random_words present words honest many as_dealt)))
      (opened_answers xs distinct t long (length secret) (share_word t (length secret) words) (survivors t rows))

  pub sound : Sound xs t (length secret) day present secret (dealt_shares xs t day secret random) words
      (finish xs t (length secret) quorum (usable t (length secret) present words) rows (share_word t (length secret) words))
  sound =
      let d : ℕ = length secret in
      let a : Opened = finish xs t d quorum (usable t d present words) rows (share_word t d words) in
      let e : a.survivors ≡ survivors t rows = opens.survived in
      let o : Answers xs t d (share_word t d words) a.survivors a = subst (λ (s : ℕ). Answers xs t d (share_word t d words) s a) (sym e) opens in
      record {
        largest = subst (Largest t rows) (sym e) (survivors_largest t rows);
        holds = λ i h s. ap (λ (m : ℕ). has m i) e ∙ survives xs t day secret random random_words present words honest many as_dealt i h s;
        opens_or_16 = o.opens_or_16;
        refuses_only = o.refuses_only;
        refuses_if = o.refuses_if;
        opens_only = o.opens_only;
        only = o.only;
        answers = o.answers;
        dealt_secret = λ few.
            let all_in : suc t ≤ card (size t) a.survivors =
            subst (λ (s : ℕ). suc t ≤ card (size t) s) (sym e) (many_survive xs t day secret random random_words present words honest many as_dealt) in
            let r = o.answers (polynomial t secret random) (dealt_fits xs t day secret random words a.survivors all_in few) in
            (r.0, r.1 ∙ dealt-zero t secret random secret_words);
      }

pub dealt_anywhere : DealtAnywhere
unfolding DealtAnywhere
dealt_anywhere xs t day present quorum secret random words points secret_words random_words met honest many as_dealt =
    sound xs (points_distinct points) t day points.long secret random (field_words secret secret_words) (field_words random random_words)
    present quorum words met honest many as_dealt

-- what an accepted dealing says: t, d and the day are in range, and the dealt words are the definition's
module _ (t day : ℕ) (secret random dealt : List ℕ) (dealing : Dealing t day secret random dealt) where
  pub in_range : Acceptable t day secret random dealing.buffer
  in_range = accepted_in_range t day secret random dealing.buffer (ap (λ (a : Dealt). a.number) dealing.accepted)

  pub dealt_is : dealt ≡ dealt_shares (own_points t) t day secret random
  dealt_is = accepted_shares t day secret random dealing.buffer dealt dealing.accepted

  pub is_a_day : is_day day ≡ true
  is_a_day = within_intro 1 65520 day in_range.day_low in_range.day_high

  -- opening, for whatever day, goes on to its second half
  pub second_half : (for present quorum : ℕ) (words : List ℕ) → is_day for ≡ true → HandedIn t (length secret) present quorum words
      → let d : ℕ = length secret in
      let able : ℕ = usable t d present words in
      reconstruct t d for present quorum words
      ≡ record { opened = finish (own_points t) t d quorum able (vote_rows t d for able words) (share_word t d words); pairs = pairs t d for able words }
  second_half for present quorum words dated handed =
      reconstruct_finishes t (length secret) for present quorum words
      (within_intro 1 15 t in_range.threshold_low in_range.threshold_high)
      (within_intro 1 64 (length secret) in_range.length_low in_range.length_high)
      dated handed.n_shares handed.n_members handed.is_a_quorum

-- Demand 3.
pub demand3 : Demand3
unfolding Demand3
demand3 t day present quorum secret random dealt words dealing handed honest many as_dealt =
    let d : ℕ = length secret in
    let r : Acceptable t day secret random dealing.buffer = in_range t day secret random dealt dealing in
    subst
    (λ (dl : List ℕ). ((i : ℕ) → i < size t → has honest i ≡ true → AsDealt t d present dl words i)
    → Sound (own_points t) t d day present secret dl words (reconstruct t d day present quorum words).opened)
    (sym (dealt_is t day secret random dealt dealing))
    (λ s. subst (Sound (own_points t) t d day present secret (dealt_shares (own_points t) t day secret random) words)
    (sym (ap (λ (a : Answered). a.opened) (second_half t day secret random dealt dealing day present quorum words (is_a_day t day secret random dealt dealing) handed)))
    (sound (own_points t) (own_distinct t r.threshold_high) t day (length_own t) secret random r.secret_words r.random_words present quorum words
    handed.met honest many s))
    as_dealt
