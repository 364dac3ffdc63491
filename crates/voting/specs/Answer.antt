-- What the votes and counts of the code stand for.
-- Assumes nothing.
use Rattle.voting.specs.declared.Vote as code
use Rattle.voting.specs.declared.Vote.TheVariants.{Accepted, Mismatched, Unread}
use Rattle.voting.specs.declared.Pairs as code_pairs
use Rattle.voting.specs.Votes.{Vote, accepted, mismatched, unread, Pairs}

-- document 02's outcome of the test of one tag, for each case
unfoldable pub vote_of : code.Vote → Vote
vote_of Accepted = accepted
vote_of Mismatched = mismatched
vote_of Unread = unread

abbrev pub pairs_of : code_pairs.Pairs → Pairs
pairs_of p = record { accepted = p.accepted; mismatched = p.mismatched; unread = p.unread }
