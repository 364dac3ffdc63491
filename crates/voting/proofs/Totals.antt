-- The counts of all pairs: they add up to n·n, with u usable members n·n − u·u are unread and u·u are not; and when none is accepted or none mismatched.
-- Assumes nothing.
use mathlib.Core.Path.{◌≡◌, refl, sym, ap, ◌∙◌}
use mathlib.Core.Bool.{Bool, true, false, ◌&&◌, not, not-not}
use mathlib.Core.List.{List}
use Prim.Native.Nat.{ℕ, ◌+◌, ◌-◌, ◌*◌, ◌≤◌, ◌<◌}
use native.Mathlib.Nat.{zero-mul, mul-le-mul}
use native.Mathlib.Omega.{arith}
use lib.ListN.{length}
use Rattle.lists.specs.Tabulate.{tab, count, keep, concat}
use Rattle.lists.proofs.Blocks.{length-concat}
use Rattle.lists.proofs.Bools.{and_left, and_right, no_exception}
use Rattle.lists.proofs.Choose.{keep_split}
use Rattle.lists.proofs.Count.{count_none}
use Rattle.lists.proofs.Grids.{passed-product}
use Rattle.lists.proofs.Tabulate.{length-tab}
use Rattle.members.specs.Members.{size, has, card}
use Rattle.members.proofs.Masks.{card-le}
use Rattle.voting.specs.Votes.{tag_holds, Vote, accepted, mismatched, unread, vote, is_of, accepts, vote_table, count_of, kinds, pairs}
use Rattle.voting.proofs.Counts.{is_mismatched, is_unread, total, kinds_total}
use Rattle.voting.proofs.Meaning.{accepts_is}

module _ (t d day able : ℕ) (words : List ℕ) where
  -- how many pairs there are
  table-length : length (concat (vote_table t d day able words)) ≡ size t * size t
  unfolding vote_table
  table-length =
      length-concat (size t) (size t) (λ i. tab (size t) (λ j. vote t d day able words j i)) (λ i l. length-tab (size t) (λ j. vote t d day able words j i))

  pub pairs_total : total (pairs t d day able words) ≡ size t * size t
  unfolding pairs
  pairs_total = kinds_total (concat (vote_table t d day able words)) ∙ table-length

  -- u·u pairs are not unread
  pairs-read : length (keep (λ v. not (is_of unread v)) (concat (vote_table t d day able words))) ≡ card (size t) able * card (size t) able
  unfolding vote_table vote card
  pairs-read =
      passed-product (λ v. not (is_of unread v)) (size t) (size t) (λ i j. vote t d day able words j i) (has able) (has able)
      (λ i j k l. ap not (is_unread (has able i && has able j) (tag_holds t d day words i j)) ∙ not-not (has able i && has able j))

  pub pairs-unread : (pairs t d day able words).unread ≡ size t * size t - card (size t) able * card (size t) able
  unfolding pairs kinds count_of
  pairs-unread = omega (arith, keep_split (is_of unread) (concat (vote_table t d day able words)), table-length, pairs-read)

  -- the others are accepted or mismatched
  pub pairs_compared : (pairs t d day able words).accepted + (pairs t d day able words).mismatched ≡ card (size t) able * card (size t) able
  pairs_compared =
      let fits : card (size t) able * card (size t) able ≤ size t * size t = mul-le-mul (card-le (size t) able) (card-le (size t) able) in
      omega (arith, pairs_total, pairs-unread, fits)

  -- nothing is of a kind that no vote is of
  none_of : (kind : Vote) → ((i j : ℕ) → i < size t → j < size t → is_of kind (vote t d day able words j i) ≡ false)
      → count_of kind (concat (vote_table t d day able words)) ≡ 0
  unfolding count_of vote_table
  none_of kind h =
      passed-product (is_of kind) (size t) (size t) (λ i j. vote t d day able words j i) (λ i. false) (λ j. false) (λ i j k l. h i j k l)
      ∙ ap (λ (c : ℕ). c * count (size t) (λ j. false)) (count_none (size t) (λ i. false) (λ i l. refl))
      ∙ zero-mul (count (size t) (λ j. false))

  -- nothing is mismatched where usable members accept each other
  pub none_mismatched_lem : ((i j : ℕ) → i < size t → j < size t → has able i ≡ true → has able j ≡ true → accepts t d day able words j i ≡ true)
      → (pairs t d day able words).mismatched ≡ 0
  unfolding pairs kinds vote
  none_mismatched_lem h =
      none_of mismatched
      (λ i j k l.
      let both : Bool = has able i && has able j in
      let holds : Bool = tag_holds t d day words i j in
      is_mismatched both holds
      ∙ no_exception both holds
      (λ e. and_right both holds (sym (accepts_is t d day able words j i) ∙ h i j k l (and_left (has able i) (has able j) e) (and_right (has able i) (has able j) e))))

  -- nothing is accepted where nobody accepts anybody
  pub none_accepted : ((i j : ℕ) → i < size t → j < size t → accepts t d day able words j i ≡ false) → (pairs t d day able words).accepted ≡ 0
  unfolding pairs kinds accepts
  none_accepted h = none_of accepted h
