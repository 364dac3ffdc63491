-- Shares of one dealing for another day (document 02, W-205): with no α equal to 0 they are refused with 15. Proved in proofs/Days.antt.
use Rattle.std.specs.Prelude.{ℕ, ◌-◌, ◌*◌, ◌<◌, ◌≡◌, true, List, [], ◌∷◌, length, replicate}
use Rattle.members.specs.Members.{size, has, first_of, card}
use Rattle.shares.specs.Layout.{is_day, key_α}
use Rattle.shares.specs.Sample.{sample}
use Rattle.dealing.specs.Examples.{random5}
use Rattle.reconstruction.specs.Reconstruction.{is_quorum, Answered, reconstruct}
use Rattle.claims.specs.Demands.{Dealing, HandedIn, AsDealt}

-- no α of any key is 0, where `dealt` are all shares
abbrev pub NoZero : ℕ → ℕ → List ℕ → Type 0
NoZero t d dealt = (i j : ℕ) → i < size t → j < size t → ¬ (key_α t d dealt i j ≡ 0)

-- refused with 15: both masks are 0, every word of the secret is 65535, and of the votes among the u usable members none is accepted
abbrev pub nobody : ℕ → ℕ → ℕ → Answered
nobody n d u =
    record {
      opened = record { number = 15; survivors = 0; agreeing = 0; secret = replicate d 65535 };
      pairs = record { accepted = 0; mismatched = u * u; unread = n * n - u * u };
    }

-- A complete set dealt for another day, with no α equal to 0, opened with its t, its d and any quorum that 13 does not refuse, which all n
-- members meet.
unfoldable pub CompleteSet : Type 0
CompleteSet =
    (t day other quorum : ℕ) (secret random dealt : List ℕ)
    → Dealing t other secret random dealt
    → NoZero t (length secret) dealt
    → is_day day ≡ true → ¬ (day ≡ other)
    → is_quorum t quorum ≡ true
    → reconstruct t (length secret) day (first_of (size t)) quorum dealt ≡ nobody (size t) (length secret) (size t)

-- shares dealt for one day and opened for another: the present members meet the quorum, and their shares are as dealt
pub record Stale (t day other present quorum : ℕ) (secret random dealt words : List ℕ) : Type 0 where
  pub dealing : Dealing t other secret random dealt
  pub is_a_day : is_day day ≡ true
  pub another : ¬ (day ≡ other)
  pub handed : HandedIn t (length secret) present quorum words
  pub as_dealt : (i : ℕ) → i < size t → has present i ≡ true → AsDealt t (length secret) present dealt words i

-- The same for any members of the set, whatever stands in the places of the others.
unfoldable pub AnotherDay : Type 0
AnotherDay =
    (t day other present quorum : ℕ) (secret random dealt words : List ℕ)
    → Stale t day other present quorum secret random dealt words
    → NoZero t (length secret) dealt
    → reconstruct t (length secret) day present quorum words ≡ nobody (size t) (length secret) (card (size t) present)

-- C5's dealing, but the keys of members 1 and 2 for each other and for themselves have α = 0: the random words, and the shares
abbrev pub random_zero : List ℕ
random_zero = 3 ∷ 0 ∷ 1 ∷ 0 ∷ 2 ∷ 1 ∷ 3 ∷ 0 ∷ 1 ∷ 0 ∷ 2 ∷ 2 ∷ 3 ∷ 3 ∷ 1 ∷ 3 ∷ 2 ∷ 3 ∷ 3 ∷ []

abbrev pub shares_zero : List ℕ
shares_zero =
    253 ∷ 1 ∷ 1 ∷ 2281 ∷ 0 ∷ 1 ∷ 0 ∷ 2 ∷ 1 ∷ 3
    ∷ 256 ∷ 2 ∷ 2 ∷ 2309 ∷ 0 ∷ 1 ∷ 0 ∷ 2 ∷ 2 ∷ 3
    ∷ 259 ∷ 263 ∷ 1041 ∷ 2337 ∷ 3 ∷ 1 ∷ 3 ∷ 2 ∷ 3 ∷ 3 ∷ []

pub record DayInstances : Type 0 where
  -- C5's shares, of day 1, opened for day 2: every premise is met, all three are usable, and nobody accepts anybody
  pub stale : Stale 1 2 1 7 0 (250 ∷ []) random5 (sample 259) (sample 259)
  pub no_zero : NoZero 1 1 (sample 259)
  pub refused : reconstruct 1 1 2 7 0 (sample 259) ≡ nobody 3 1 3
  -- where α is 0 for t + 1 members among themselves, another day's secret opens: that no α is 0 is needed
  pub stale_zero : Stale 1 2 1 7 0 (250 ∷ []) random_zero shares_zero shares_zero
  pub opens :
      reconstruct 1 1 2 7 0 shares_zero
      ≡ record {
        opened = record { number = 0; survivors = 3; agreeing = 3; secret = 250 ∷ [] };
        pairs = record { accepted = 4; mismatched = 5; unread = 0 };
      }
