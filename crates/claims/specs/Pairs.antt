-- The three counts of votes in opening's answer (document 02, W-204; 32 is W-205's). Proved in proofs/Pairs.antt.
use Rattle.std.specs.Prelude.{ℕ, ◌+◌, ◌-◌, ◌*◌, ◌≡◌, Bool, true, false, ◌||◌, List, [], ◌∷◌, eqb}
use Rattle.members.specs.Members.{size, card}
use Rattle.voting.specs.Votes.{usable, vote_rows, Pairs, no_pairs, pairs}
use Rattle.reconstruction.specs.Reconstruction.{Answered, reconstruct}

-- the number is one of these
unfoldable pub one_of : List ℕ → ℕ → Bool
one_of [] k = false
one_of (m ∷ ms) k = eqb k m || one_of ms k

-- the numbers that are given before the votes are counted, and those after that: 0 is where it opens
abbrev pub before_votes : List ℕ
before_votes = 1 ∷ 2 ∷ 32 ∷ 11 ∷ 12 ∷ 13 ∷ []

abbrev pub after_votes : List ℕ
after_votes = 0 ∷ 14 ∷ 15 ∷ 16 ∷ []

-- how many ones rows of n bits have in all
unfoldable pub ones : ℕ → List ℕ → ℕ
ones n [] = 0
ones n (row ∷ rows) = card n row + ones n rows

-- the counts are those of the votes, where `able` is the set of usable members: they add up to n·n, with u usable members n·n − u·u are unread,
-- and as many are accepted as all vote rows together have ones
pub record TrueCounts (t d day able : ℕ) (words : List ℕ) (p : Pairs) : Type 0 where
  pub of_the_votes : p ≡ pairs t d day able words
  pub add_up : p.accepted + p.mismatched + p.unread ≡ size t * size t
  pub unread_are : p.unread ≡ size t * size t - card (size t) able * card (size t) able
  pub accepted_are : p.accepted ≡ ones (size t) (vote_rows t d day able words)

-- an answer's number is one of these, and by it the counts are 0 or the true ones
pub record CountsOf (t d day present : ℕ) (words : List ℕ) (answer : Answered) : Type 0 where
  pub known : (one_of before_votes answer.opened.number || one_of after_votes answer.opened.number) ≡ true
  pub none_before : one_of before_votes answer.opened.number ≡ true → answer.pairs ≡ no_pairs
  pub true_after : one_of after_votes answer.opened.number ≡ true → TrueCounts t d day (usable t d present words) words answer.pairs

-- whatever is handed in
unfoldable pub PairCounts : Type 0
PairCounts = (t d day present quorum : ℕ) (words : List ℕ) → CountsOf t d day present words (reconstruct t d day present quorum words)
