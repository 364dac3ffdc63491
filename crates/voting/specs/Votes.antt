-- Votes from shares for a day (document 01, 'Votes and pruning'; document 02, W-204 and W-205): who is usable, everybody's vote on everybody,
-- and how many there are of each kind.
-- Assumes nothing.
use Rattle.std.specs.Prelude.{ℕ, Bool, true, false, ◌&&◌, cond, List, eqb, length}
use Rattle.lists.specs.Tabulate.{tab, all, keep, concat}
use Rattle.field.specs.Field.{is_field_word}
use Rattle.mac.specs.Tag.{tag}
use Rattle.members.specs.Members.{size, has, set_of}
use Rattle.shares.specs.Layout.{tagged, width, word, share_words, tag_word_at, key_α, key_β}

-- every word of member i's share is a field word
unfoldable pub field_share : ℕ → ℕ → List ℕ → ℕ → Bool
field_share t d words i = all (width t d) (λ k. is_field_word (word t d words i k))

-- the usable members: present, and every word of the share is a field word
unfoldable pub usable : ℕ → ℕ → ℕ → List ℕ → ℕ
usable t d present words = set_of (size t) (λ i. has present i && field_share t d words i)

-- tag(i,j) is the tag of the day and i's share words under key(j,i)
unfoldable pub tag_holds : ℕ → ℕ → ℕ → List ℕ → ℕ → ℕ → Bool
tag_holds t d day words i j = eqb (tag_word_at t d words i j) (tag (key_α t d words j i) (key_β t d words j i) (tagged day (share_words t d words i)))

-- how the test of one tag comes out
pub data Vote : Type 0 where
  accepted : Vote
  mismatched : Vote
  unread : Vote

-- the vote of member j on member i: unread unless both are usable; if they are, by whether tag(i,j) holds. `able` is the set of usable members.
unfoldable pub vote : ℕ → ℕ → ℕ → ℕ → List ℕ → ℕ → ℕ → Vote
vote t d day able words j i = cond (has able i && has able j) (cond (tag_holds t d day words i j) accepted mismatched) unread

-- a vote is of a kind
unfoldable pub is_of : Vote → Vote → Bool
is_of accepted v = elim v [ accepted ↦ true | mismatched ↦ false | unread ↦ false ]
is_of mismatched v = elim v [ accepted ↦ false | mismatched ↦ true | unread ↦ false ]
is_of unread v = elim v [ accepted ↦ false | mismatched ↦ false | unread ↦ true ]

-- member j accepts member i
unfoldable pub accepts : ℕ → ℕ → ℕ → ℕ → List ℕ → ℕ → ℕ → Bool
accepts t d day able words j i = is_of accepted (vote t d day able words j i)

-- row i of the votes: those who accept i
unfoldable pub vote_rows : ℕ → ℕ → ℕ → ℕ → List ℕ → List ℕ
vote_rows t d day able words = tab (size t) (λ i. set_of (size t) (λ j. accepts t d day able words j i))

-- the table of all n·n votes: for each member i, everybody's vote on it
unfoldable pub vote_table : ℕ → ℕ → ℕ → ℕ → List ℕ → List (List Vote)
vote_table t d day able words = tab (size t) (λ i. tab (size t) (λ j. vote t d day able words j i))

-- how many votes there are of each kind
pub record Pairs : Type 0 where
  pub accepted : ℕ
  pub mismatched : ℕ
  pub unread : ℕ

-- nothing is counted
abbrev pub no_pairs : Pairs
no_pairs = record { accepted = 0; mismatched = 0; unread = 0 }

-- of a list of votes, how many are of a kind, and how many of each
unfoldable pub count_of : Vote → List Vote → ℕ
count_of kind votes = length (keep (is_of kind) votes)

unfoldable pub kinds : List Vote → Pairs
kinds votes = record { accepted = count_of accepted votes; mismatched = count_of mismatched votes; unread = count_of unread votes }

-- how many of the pairs (i,j) fell to each kind
unfoldable pub pairs : ℕ → ℕ → ℕ → ℕ → List ℕ → Pairs
pairs t d day able words = kinds (concat (vote_table t d day able words))
