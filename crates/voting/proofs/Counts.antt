-- Laws of the three kinds of votes, and of how many there are of each.
-- Assumes nothing.
use mathlib.Core.Path.{◌≡◌, refl, ap, ◌∙◌}
use mathlib.Core.Bool.{Bool, true, false, ◌&&◌, not, cond}
use mathlib.Core.List.{List, [], ◌∷◌, ◌++◌}
use Prim.Native.Nat.{ℕ, ◌+◌}
use native.Mathlib.Omega.{arith}
use lib.ListN.{length, length-append}
use Rattle.lists.specs.Tabulate.{keep}
use Rattle.lists.proofs.Choose.{keep_append}
use Rattle.voting.specs.declared.Vote as code
use Rattle.voting.specs.declared.Vote.TheVariants.{Accepted, Mismatched, Unread}
use Rattle.voting.specs.declared.Pairs as code_pairs
use Rattle.voting.specs.Answer.{vote_of, pairs_of}
use Rattle.voting.specs.Votes.{Vote, accepted, mismatched, unread, is_of, Pairs, count_of, kinds}
use Rattle.voting.specs.Internal.Counting.{together}

-- the kind of a vote, by whether both members are usable and the tag holds
pub is_accepted : (both holds : Bool) → is_of accepted (cond both (cond holds accepted mismatched) unread) ≡ both && holds
unfolding is_of
is_accepted true true = refl
is_accepted true false = refl
is_accepted false holds = refl

pub is_mismatched : (both holds : Bool) → is_of mismatched (cond both (cond holds accepted mismatched) unread) ≡ both && not holds
unfolding is_of
is_mismatched true true = refl
is_mismatched true false = refl
is_mismatched false holds = refl

pub is_unread : (both holds : Bool) → is_of unread (cond both (cond holds accepted mismatched) unread) ≡ not both
unfolding is_of
is_unread true true = refl
is_unread true false = refl
is_unread false holds = refl

pub same_pairs : {p q : Pairs} → p.accepted ≡ q.accepted → p.mismatched ≡ q.mismatched → p.unread ≡ q.unread → p ≡ q
same_pairs a m u i = record { accepted = a i; mismatched = m i; unread = u i }

-- one vote more of each kind
module _ (p : code_pairs.Pairs) (v : code.Vote) where
  pub one_accepted : v ≡ Accepted → pairs_of (record { accepted = p.accepted + 1; mismatched = p.mismatched; unread = p.unread }) ≡ together (pairs_of p) (kinds (vote_of v ∷ []))
  unfolding vote_of kinds count_of keep is_of
  one_accepted e = rw e (same_pairs refl (omega arith) (omega arith))

  pub one_mismatched : v ≡ Mismatched → pairs_of (record { accepted = p.accepted; mismatched = p.mismatched + 1; unread = p.unread }) ≡ together (pairs_of p) (kinds (vote_of v ∷ []))
  unfolding vote_of kinds count_of keep is_of
  one_mismatched e = rw e (same_pairs (omega arith) refl (omega arith))

  pub one-unread : v ≡ Unread → pairs_of (record { accepted = p.accepted; mismatched = p.mismatched; unread = p.unread + 1 }) ≡ together (pairs_of p) (kinds (vote_of v ∷ []))
  unfolding vote_of kinds count_of keep is_of
  one-unread e = rw e (same_pairs (omega arith) (omega arith) refl)

-- what is counted of two lists of votes
count_of-append : (kind : Vote) (vs ws : List Vote) → count_of kind (vs ++ ws) ≡ count_of kind vs + count_of kind ws
unfolding count_of
count_of-append kind vs ws = ap length (keep_append (is_of kind) vs ws) ∙ length-append (keep (is_of kind) vs) (keep (is_of kind) ws)

pub kinds-append : (vs ws : List Vote) → kinds (vs ++ ws) ≡ together (kinds vs) (kinds ws)
unfolding kinds
kinds-append vs ws = same_pairs (count_of-append accepted vs ws) (count_of-append mismatched vs ws) (count_of-append unread vs ws)

-- all kinds together
abbrev pub total : Pairs → ℕ
total p = p.accepted + p.mismatched + p.unread

one_more : (v : Vote) (vs : List Vote) → total (kinds vs) ≡ length vs → total (kinds (v ∷ vs)) ≡ length (v ∷ vs)
unfolding kinds count_of keep is_of
one_more accepted vs e = omega (arith, e)
one_more mismatched vs e = omega (arith, e)
one_more unread vs e = omega (arith, e)

-- every vote is of one kind
pub kinds_total : (vs : List Vote) → total (kinds vs) ≡ length vs
unfolding kinds count_of keep
kinds_total [] = refl
kinds_total (v ∷ vs) = one_more v vs (kinds_total vs)
