-- Counts added up, and what a row counts.
-- Assumes nothing.
use Rattle.std.specs.Prelude.{ℕ, ◌≡◌, ◌+◌, ◌<◌, Bool, true, cond, ◌&&◌}
use Rattle.lists.specs.Tabulate.{tab}
use Rattle.members.specs.Members.{has, set_of}
use Rattle.voting.specs.declared.Vote as code
use Rattle.voting.specs.declared.Counted.{Counted}
use Rattle.voting.specs.Votes.{Vote, accepted, mismatched, unread, is_of, Pairs, kinds}
use Rattle.voting.specs.Answer.{vote_of, pairs_of}

-- two counts together
abbrev pub together : Pairs → Pairs → Pairs
together a b =
    record { accepted = a.accepted + b.accepted; mismatched = a.mismatched + b.mismatched; unread = a.unread + b.unread }

-- the vote of member j on member i, by whether i's tag for j holds
abbrev pub voted : ℕ → ℕ → ℕ → Bool → Vote
voted able i j holds = cond (has able i && has able j) (cond holds accepted mismatched) unread

-- a vote by a test of which `tells` says what it may answer, if member i is usable
abbrev pub Tests : ℕ → ℕ → ℕ → (Bool → Type 0) → code.Vote → Type 0
Tests able i j tells v = (holds : Bool) → ((h : Bool) → has able i ≡ true → tells h → h ≡ holds) → vote_of v ≡ voted able i j holds

-- the votes of the first n members on member i are counted, by a test for each
abbrev pub Counts : ℕ → ℕ → (ℕ → Bool → Type 0) → ℕ → Counted → Type 0
Counts able i tells n at =
    (holds : ℕ → Bool)
    → ((j : ℕ) (h : Bool) → j < n → has able i ≡ true → tells j h → h ≡ holds j)
    → (at.row ≡ set_of n (λ j. is_of accepted (voted able i j (holds j)))) × (pairs_of at.pairs ≡ kinds (tab n (λ j. voted able i j (holds j))))
