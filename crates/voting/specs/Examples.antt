-- Corners of usable members and votes, for day 1 where no other is named. Proved in proofs/Examples.antt.
use Rattle.std.specs.Prelude.{ℕ, ◌+◌, ◌≡◌, List, [], ◌∷◌, set, replicate}
use Rattle.shares.specs.Sample.{sample, day_seven, keyless}
use Rattle.voting.specs.Votes.{usable, accepted, mismatched, unread, vote_rows, vote_table, Pairs, pairs}

-- the sample as dealt, with x at place k of member 2's share: place 0 is its share word, 2 is tag(2,2), 9 is β of key(2,3)
abbrev pub second : ℕ → ℕ → List ℕ
second k x = set (sample 259) (10 + k) x

-- t = 2, d = 1, all words 0, but tag(3,1) is 1
abbrev pub unaccepted : List ℕ
unaccepted = set (replicate 80 0) 33 1

-- so many accepted, mismatched and unread
abbrev pub tally : ℕ → ℕ → ℕ → Pairs
tally a m u = record { accepted = a; mismatched = m; unread = u }

pub record Examples : Type 0 where
  -- 65520 and 65521 in a share word, a tag and a key of member 2
  pub word_65520 : usable 1 1 7 (second 0 65520) ≡ 7
  pub word_65521 : usable 1 1 7 (second 0 65521) ≡ 5
  pub tag_65520 : usable 1 1 7 (second 2 65520) ≡ 7
  pub tag_65521 : usable 1 1 7 (second 2 65521) ≡ 5
  pub key_65520 : usable 1 1 7 (second 9 65520) ≡ 7
  pub key_65521 : usable 1 1 7 (second 9 65521) ≡ 5
  -- an absent member is not usable, whatever its words are
  pub absent : usable 1 1 5 (sample 259) ≡ 5
  -- votes of the sample as dealt; with 300 for 259 members 1 and 2 do not accept member 3, nor does member 3 itself
  pub votes_as_dealt : vote_rows 1 1 1 7 (sample 259) ≡ 7 ∷ 7 ∷ 7 ∷ []
  pub votes_altered : vote_rows 1 1 1 7 (sample 300) ≡ 7 ∷ 7 ∷ 0 ∷ []
  -- member 2's tag(2,3) is altered: only member 3 does not accept member 2; its key(2,3) is altered: only member 2 does not accept member 3
  pub votes_tag : vote_rows 1 1 1 7 (second 3 0) ≡ 7 ∷ 3 ∷ 7 ∷ []
  pub votes_key : vote_rows 1 1 1 7 (second 9 0) ≡ 7 ∷ 7 ∷ 5 ∷ []
  -- members 4 and 5 are absent: their zeros do not vote, so member 3 has two votes
  pub absent_votes : vote_rows 2 1 1 7 unaccepted ≡ 7 ∷ 7 ∷ 6 ∷ 0 ∷ 0 ∷ []
  -- for another day nobody accepts anybody, but by a key whose α is 0: there the day makes no difference, nor do share words
  pub votes_another_day : vote_rows 1 1 2 7 (sample 259) ≡ 0 ∷ 0 ∷ 0 ∷ []
  pub pairs_another_day : pairs 1 1 2 7 (sample 259) ≡ tally 0 9 0
  pub pairs_day_7 : pairs 1 1 7 7 day_seven ≡ tally 9 0 0
  pub pairs_day_8 : pairs 1 1 8 7 day_seven ≡ tally 0 9 0
  pub pairs_keyless : pairs 1 1 2 7 (keyless 259) ≡ tally 9 0 0
  -- the votes of members 1 and 2, where member 2's share word is altered and member 3 is absent
  pub table :
      vote_table 1 1 1 3 (second 0 0)
      ≡ (accepted ∷ accepted ∷ unread ∷ []) ∷ (mismatched ∷ mismatched ∷ unread ∷ []) ∷ (unread ∷ unread ∷ unread ∷ []) ∷ []
  -- how many of each kind: as dealt; a share word altered, a tag, a key, and a member's tag for itself
  pub pairs_as_dealt : pairs 1 1 1 7 (sample 259) ≡ tally 9 0 0
  pub pairs_altered : pairs 1 1 1 7 (sample 300) ≡ tally 6 3 0
  pub pairs_tag : pairs 1 1 1 7 (second 3 0) ≡ tally 8 1 0
  pub pairs_key : pairs 1 1 1 7 (second 9 0) ≡ tally 8 1 0
  pub pairs_self : pairs 1 1 1 7 (second 2 0) ≡ tally 8 1 0
  -- one not usable of three: its votes and those on it are unread, whatever its words are
  pub pairs_unusable : pairs 1 1 1 5 (second 0 0) ≡ tally 4 0 5
  -- one usable, whose vote on itself counts; and none
  pub pairs_alone : pairs 1 1 1 1 (sample 259) ≡ tally 1 0 8
  pub pairs_none : pairs 1 1 1 0 (sample 259) ≡ tally 0 0 9
  pub pairs_absent : pairs 2 1 1 7 unaccepted ≡ tally 8 1 16
