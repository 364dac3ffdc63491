-- Reconstruction (document 01: opening) for a day (document 02, W-205). It goes in two halves: votes from shares, and what votes and share
-- words open to. The votes are counted by their kinds too (document 02, W-204).
-- Assumes nothing.
use Rattle.std.specs.Prelude.{ℕ, suc, ◌+◌, ◌*◌, Bool, cond, ◌||◌, not, List, [], ◌∷◌, leb, eqb, length, replicate}
use Rattle.std.proofs.Math.Option.{Option, none, some}
use Rattle.lists.specs.Tabulate.{tab}
use Rattle.lists.specs.Checks.{Check, ◌unless◌, checked, within}
use Rattle.polynomial.specs.Polynomial.{value}
use Rattle.members.specs.Members.{is_threshold, size, own_points, is_set, card}
use Rattle.shares.specs.Layout.{is_length, is_day, width, share_word}
use Rattle.voting.specs.Votes.{usable, vote_rows, Pairs, no_pairs, pairs}
use Rattle.pruning.specs.Pruning.{survivors}
use Rattle.decoding.specs.Decoding.{agreeing, nth, find}

-- what shares open to: 0 or the refusal's number, the survivors, the agreeing survivors, and the secret buffer at exit
pub record Opened : Type 0 where
  pub number : ℕ
  pub survivors : ℕ
  pub agreeing : ℕ
  pub secret : List ℕ

-- A refusal fills the secret buffer, which has d words, with 65535. Only 16 returns the survivors.
unfoldable pub unopened : ℕ → ℕ → ℕ → Opened
unopened d survived k = record { number = k; survivors = survived; agreeing = 0; secret = replicate d 65535 }

-- a quorum that 13 does not refuse: 0 or t + 1 to n
unfoldable pub is_quorum : ℕ → ℕ → Bool
is_quorum t quorum = eqb quorum 0 || within (suc t) (size t) quorum

-- how many usable members the quorum asks for: 0 stands for t + 2 (document 02, W-202)
unfoldable pub required : ℕ → ℕ → ℕ
required t quorum = cond (eqb quorum 0) (t + 2) quorum

-- the values of d polynomials at 0
unfoldable pub at_zero_of : ℕ → (ℕ → List ℕ) → List ℕ
at_zero_of d f = tab d (λ k. value (f k) 0)

-- the polynomials found for the survivors give the secret
unfoldable pub opened_from : List ℕ → ℕ → ℕ → (ℕ → ℕ → ℕ) → ℕ → Option (List (List ℕ)) → Opened
opened_from xs t d y survived none = unopened d survived 16
opened_from xs t d y survived (some fs) =
    record { number = 0; survivors = survived; agreeing = agreeing xs t d y survived (nth fs); secret = at_zero_of d (nth fs) }

-- from the usable members, the vote rows and the share words y to what they open to
unfoldable pub finish : List ℕ → ℕ → ℕ → ℕ → ℕ → List ℕ → (ℕ → ℕ → ℕ) → Opened
finish xs t d quorum able rows y =
    let survived : ℕ = survivors t rows in
    let answer : Opened = opened_from xs t d y survived (find xs t d y survived) in
    checked (unopened d 0)
    (14 unless leb (required t quorum) (card (size t) able) ∷ 15 unless not (eqb survived 0) ∷ []) answer

-- what opening answers: what the shares open to, and how many pairs fell to each kind of vote
pub record Answered : Type 0 where
  pub opened : Opened
  pub pairs : Pairs

-- a refusal before the votes: nothing is counted
unfoldable pub turned_away : ℕ → ℕ → Answered
turned_away d k = record { opened = unopened d 0 k; pairs = no_pairs }

-- the checks before the votes, in their order
abbrev pub checks : ℕ → ℕ → ℕ → ℕ → ℕ → List ℕ → List Check
checks t d day present quorum words =
    1 unless is_threshold t
    ∷ 2 unless is_length d
    ∷ 32 unless is_day day
    ∷ 11 unless eqb (length words) (size t * width t d)
    ∷ 12 unless is_set (size t) present
    ∷ 13 unless is_quorum t quorum
    ∷ []

-- the secret buffer has d words
unfoldable pub reconstruct : ℕ → ℕ → ℕ → ℕ → ℕ → List ℕ → Answered
reconstruct t d day present quorum words =
    let able : ℕ = usable t d present words in
    let opened : Opened = finish (own_points t) t d quorum able (vote_rows t d day able words) (share_word t d words) in
    checked (turned_away d) (checks t d day present quorum words) (record { opened = opened; pairs = pairs t d day able words })
