-- What opening answers, for any distinct points: 16 exactly where nothing fits, and else the only answer.
-- Assumes nothing.
use mathlib.Core.Path.{◌≡◌, sym, ◌∙◌}
use mathlib.Core.Logic.{inl, inr}
use mathlib.Core.Bool.{Bool, true}
use mathlib.Core.List.{List}
use Rattle.std.proofs.Common.{Err}
use Prim.Native.Nat.{ℕ, suc, ◌+◌, ◌*◌, ◌^◌, ◌≤◌, ◌<◌}
use native.Mathlib.Omega.{arith}
use native.Mathlib.Numerals.{add-one}
use lib.Dec.{eqb}
use lib.ListN.{length, replicate}
use borrow.Author.Tests.{le-leb, lt-ltb, eq-eqb, ne_eqb}
use Rattle.lists.specs.Checks.{within}
use Rattle.lists.proofs.Bools.{test}
use Rattle.lists.proofs.Checks.{within_low, within_high}
use Rattle.members.specs.Members.{is_threshold, size, own_points, card}
use Rattle.shares.specs.Layout.{is_length, is_day, width, share_word}
use Rattle.voting.specs.Votes.{usable, vote_rows, no_pairs, pairs}
use Rattle.voting.specs.declared.Pairs.{Pairs}
use Rattle.voting.specs.Answer.{pairs_of}
use Rattle.pruning.specs.Pruning.{survivors}
use Rattle.decoding.specs.Decoding.{find}
use Rattle.refusals.specs.Refusals.{number}
use Rattle.refusals.specs.declared.Refusal.{Refusal}
use Rattle.reconstruction.specs.Answer.{answer_of}
use Rattle.reconstruction.specs.Reconstruction.{Opened, unopened, is_quorum, required, opened_from, finish, Answered, turned_away, reconstruct}

-- a quorum that usable members meet, and some survivors: the answer is from the survivors' share words
pub finish_opens : (xs : List ℕ) (t d quorum able : ℕ) (rows : List ℕ) (y : ℕ → ℕ → ℕ) → required t quorum ≤ card (size t) able → (survivors t rows ≡ 0 → ⊥)
    → finish xs t d quorum able rows y ≡ opened_from xs t d y (survivors t rows) (find xs t d y (survivors t rows))
unfolding finish
finish_opens xs t d quorum able rows y met some_left =
    rw (le-leb (required t quorum) (card (size t) able) met, ne_eqb (survivors t rows) 0 some_left)

-- and no survivors: 15
pub finish_none : (xs : List ℕ) (t d quorum able : ℕ) (rows : List ℕ) (y : ℕ → ℕ → ℕ) → required t quorum ≤ card (size t) able → survivors t rows ≡ 0
    → finish xs t d quorum able rows y ≡ unopened d 0 15
unfolding finish
finish_none xs t d quorum able rows y met none_left =
    rw (le-leb (required t quorum) (card (size t) able) met, eq-eqb (survivors t rows) 0 none_left)

-- input that passes the checks before the votes
pub reconstruct_finishes : (t d day present quorum : ℕ) (words : List ℕ) → is_threshold t ≡ true → is_length d ≡ true → is_day day ≡ true
    → length words ≡ size t * width t d → present < 2 ^ size t → is_quorum t quorum ≡ true
    → let able : ℕ = usable t d present words in
    reconstruct t d day present quorum words
    ≡ record { opened = finish (own_points t) t d quorum able (vote_rows t d day able words) (share_word t d words); pairs = pairs t d day able words }
unfolding reconstruct
reconstruct_finishes t d day present quorum words ht hd hy hw hp hq =
    rw (ht, hd, hy, eq-eqb (length words) (size t * width t d) hw, lt-ltb present (2 ^ size t) hp, hq)

-- a quorum asks for at least t + 1
pub required_least : (t quorum : ℕ) → is_quorum t quorum ≡ true → suc t ≤ required t quorum
unfolding is_quorum required
required_least t quorum h =
    elim (test (eqb quorum 0)) [
      | inl e ↦ rw e (omega arith)
      | inr e ↦ rw e (within_low (suc t) (size t) quorum (rw e at h))
    ]

-- and for at most n
pub required_most : (t quorum : ℕ) → 1 ≤ t → is_quorum t quorum ≡ true → required t quorum ≤ size t
unfolding is_quorum required size
required_most t quorum low h =
    elim (test (eqb quorum 0)) [
      | inl e ↦ rw e (omega (arith, low))
      | inr e ↦ rw e (within_high (suc t) (size t) quorum (rw e at h))
    ]

-- what the tests of a quorum come to
module _ (t quorum : ℕ) where
  -- another quorum than 0 is required as it stands
  pub required_other : (quorum ≡ 0 → ⊥) → quorum ≡ required t quorum
  unfolding required
  required_other h = rw (ne_eqb quorum 0 h)

  -- 0 is a quorum
  pub quorum_0 : quorum ≡ 0 → true ≡ is_quorum t quorum
  unfolding is_quorum
  quorum_0 e = rw (eq-eqb quorum 0 e)

  -- another is one if it is from t + 1 to n
  pub quorum_other : (n : ℕ) → n ≡ size t → (quorum ≡ 0 → ⊥) → (b : Bool) → b ≡ within (t + 1) n quorum → b ≡ is_quorum t quorum
  unfolding is_quorum
  quorum_other n e h b eb = eb ∙ sym (rw (ne_eqb quorum 0 h, ← e, ← add-one))

-- a refusal's answer
pub refused_so : (d survived : ℕ) (why : Refusal) (secret : List ℕ) → secret ≡ replicate d 65535
    → answer_of (Err (record { refusal = why; survivors = survived })) secret ≡ unopened d survived (number why)
unfolding unopened
refused_so d survived why secret e = rw e

-- and one before the votes
pub turned_away_lem : (d number : ℕ) (a : Opened) → a ≡ unopened d 0 number → (p : Pairs) → pairs_of p ≡ no_pairs
    → (let r : Answered = record { opened = a; pairs = pairs_of p } in r) ≡ turned_away d number
unfolding turned_away
turned_away_lem d number a ea p ep i = record { opened = ea i; pairs = ep i }
