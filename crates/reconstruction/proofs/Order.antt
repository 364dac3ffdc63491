-- Opening's checks before the votes in their order, as the code makes them. Only here the code's shape is known to be that of t and d.
-- Assumes nothing.
use mathlib.Core.Path.{◌≡◌, sym, ap, ◌∙◌}
use mathlib.Core.Bool.{Bool, true, false}
use mathlib.Core.List.{List}
use Prim.Native.Nat.{ℕ}
use lib.ListN.{drop}
use Rattle.members.specs.Members.{own_points}
use Rattle.shares.specs.Layout.{share_word}
use Rattle.voting.specs.Votes.{usable, vote_rows, pairs}
use Rattle.shares.specs.Internal.FirstChecks.{SharesPassed, SharesRefused}
use Rattle.shares.specs.declared.Shares.{Shares}
use Rattle.shares.proofs.FirstChecks.{shares_refused}
use Rattle.reconstruction.specs.Reconstruction.{Answered, turned_away, is_quorum, finish, checks, reconstruct}
use Rattle.reconstruction.specs.Internal.Steps.{Accepted}

module _ (t d day present quorum : ℕ) (words : List ℕ) where
  abbrev answered : Answered
  answered = reconstruct t d day present quorum words

  -- what the shares come to
  abbrev opened : Answered
  opened =
      let able : ℕ = usable t d present words in
      record { opened = finish (own_points t) t d quorum able (vote_rows t d day able words) (share_word t d words); pairs = pairs t d day able words }

  -- one of the checks of shares fails
  pub refused : (k : ℕ) → SharesRefused t d day present words k → answered ≡ turned_away d k
  unfolding reconstruct
  refused k r = shares_refused (turned_away d) (drop 5 (checks t d day present quorum words)) opened r

  -- they all pass
  module _ (s : Shares) (passed : (s.shape.t ≡ t) × (s.shape.d ≡ d) × (s.words.now ≡ words) × SharesPassed t d day present words) where
    p : SharesPassed t d day present words
    p = passed.3

    quorum_tested : {b : Bool} → is_quorum s.shape.t quorum ≡ b → is_quorum t quorum ≡ b
    quorum_tested h = sym (ap (λ (m : ℕ). is_quorum m quorum) passed.0) ∙ h

    pub refused_13 : is_quorum s.shape.t quorum ≡ false → answered ≡ turned_away d 13
    unfolding reconstruct
    refused_13 h = rw (p.passed.threshold, p.passed.in_length, p.passed.is_a_day, p.in_full, p.proper, quorum_tested h)

    pub goes_on : is_quorum s.shape.t quorum ≡ true → Accepted t d day present quorum words s
    unfolding reconstruct
    goes_on h =
        record {
          of_d = passed.1;
          opens =
              rw (passed.0, passed.1, passed.2, p.passed.threshold, p.passed.in_length, p.passed.is_a_day, p.in_full, p.proper, quorum_tested h);
        }

-- for the checks as the code makes them
pub ruleset by_check = (refused, refused_13, goes_on)
