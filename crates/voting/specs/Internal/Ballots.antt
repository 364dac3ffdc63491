-- The votes of a ballot on one member, and the tags that the member has to have.
-- Assumes nothing.
use Rattle.std.specs.Prelude.{ℕ, Bool, ◌<◌, ◌≡◌, List, get_or}
use Rattle.lists.specs.Tabulate.{tab}
use Rattle.mac.specs.Tag.{tag}
use Rattle.members.specs.Members.{size, set_of}
use Rattle.shares.specs.Layout.{tagged, share_words, key_α, key_β}
use Rattle.voting.specs.declared.Ballot.{Ballot}
use Rattle.voting.specs.declared.Counted.{Counted}
use Rattle.voting.specs.Votes.{tag_holds, Vote, vote, accepts, kinds}
use Rattle.voting.specs.Answer.{pairs_of}

-- tag(i,j) is the right one
abbrev pub holds : Ballot → ℕ → ℕ → Bool
holds b i j = tag_holds b.shares.shape.t b.shares.shape.d b.day b.shares.words.now i j

-- those who accept member i, and everybody's vote on it
abbrev pub row_of : Ballot → ℕ → ℕ
row_of b i = set_of (size b.shares.shape.t) (λ j. accepts b.shares.shape.t b.shares.shape.d b.day b.able b.shares.words.now j i)

abbrev pub votes_on : Ballot → ℕ → List Vote
votes_on b i = tab (size b.shares.shape.t) (λ j. vote b.shares.shape.t b.shares.shape.d b.day b.able b.shares.words.now j i)

-- the two are what is counted
pub record Row (b : Ballot) (i : ℕ) (at : Counted) : Type 0 where
  pub row_value : at.row ≡ row_of b i
  pub pairs_value : pairs_of at.pairs ≡ kinds (votes_on b i)

-- α and β of key(k,i), and what tag(i,j) is a tag of
abbrev pub key_of_α : Ballot → ℕ → ℕ → ℕ
key_of_α b k i = key_α b.shares.shape.t b.shares.shape.d b.shares.words.now k i

abbrev pub key_of_β : Ballot → ℕ → ℕ → ℕ
key_of_β b k i = key_β b.shares.shape.t b.shares.shape.d b.shares.words.now k i

abbrev pub tagged_of : Ballot → ℕ → List ℕ
tagged_of b i = tagged b.day (share_words b.shares.shape.t b.shares.shape.d b.shares.words.now i)

-- place j has what tag(i,j) has to be
pub record Expected (b : Ballot) (i : ℕ) (tags : List ℕ) : Type 0 where
  pub tag_of_place : (j : ℕ) → j < b.shares.shape.n → get_or tags j 0 ≡ tag (key_of_α b j i) (key_of_β b j i) (tagged_of b i)
