-- Demands 2 and 3 as statements over the definitions of dealing and opening. Proved in proofs/Demand2 and proofs/Demand3.
--
-- Both are about one day's dealing and an opening for that day (document 02, W-205). Nothing is assumed of the secret, the random words
-- and the day but that dealing accepts them, and nothing of what is handed in but its length, its mask and its quorum: its words may be any
-- numbers, also those of absent members.
use Rattle.std.specs.Prelude.{ℕ, suc, ◌-◌, ◌*◌, ◌/◌, ◌^◌, ◌≤◌, ◌<◌, ◌≡◌, ◌⊎◌, true, ◌&&◌, not, List, eqb, length}
use Rattle.lists.specs.Tabulate.{all}
use Rattle.members.specs.Members.{size, own_points, has, set_of, card}
use Rattle.shares.specs.Layout.{width, word, share_word}
use Rattle.pruning.specs.Pruning.{Largest}
use Rattle.decoding.specs.Decoding.{surplus, agreeing, Fits}
use Rattle.dealing.specs.Dealing.{deal}
use Rattle.voting.specs.Votes.{usable, vote_rows, Pairs}
use Rattle.reconstruction.specs.Reconstruction.{Opened, is_quorum, required, at_zero_of, reconstruct}

-- dealing accepts the secret and the random words for the day, and writes the dealt words
pub record Dealing (t day : ℕ) (secret random dealt : List ℕ) : Type 0 where
  pub buffer : List ℕ
  pub accepted : deal t day secret random buffer ≡ record { number = 0; shares = dealt }

-- what is handed in to opening for d words: n shares, a mask of the n members, and a quorum that is met
pub record HandedIn (t d present quorum : ℕ) (words : List ℕ) : Type 0 where
  pub n_shares : length words ≡ size t * width t d
  pub n_members : present < 2 ^ size t
  pub is_a_quorum : is_quorum t quorum ≡ true
  pub met : required t quorum ≤ card (size t) (usable t d present words)

-- member i's share is handed in as dealt: it is present, and each of its words is the one that dealing wrote there
pub record AsDealt (t d present : ℕ) (dealt words : List ℕ) (i : ℕ) : Type 0 where
  pub is_present : has present i ≡ true
  pub same : (k : ℕ) → k < width t d → word t d words i k ≡ word t d dealt i k

-- the members of a set with altered share words: at least one of the d is not the dealt one
unfoldable pub altered : ℕ → ℕ → List ℕ → List ℕ → ℕ → ℕ
altered t d dealt words set =
    set_of (size t) (λ i. has set i && not (all d (λ k. eqb (share_word t d words i k) (share_word t d dealt i k))))

-- polynomials of degree at most t that enough members of a set agree with, by their share words; and the members that agree
abbrev pub Fitting : List ℕ → ℕ → ℕ → List ℕ → ℕ → (ℕ → List ℕ) → Type 0
Fitting xs t d words set f = Fits xs t d (share_word t d words) set f

abbrev pub agreed : List ℕ → ℕ → ℕ → List ℕ → ℕ → (ℕ → List ℕ) → ℕ
agreed xs t d words set f = agreeing xs t d (share_word t d words) set f

-- the pairs of n members, of whom u are usable, where no vote is mismatched
abbrev pub none_mismatched : ℕ → ℕ → Pairs
none_mismatched n u = record { accepted = u * u; mismatched = 0; unread = n * n - u * u }

-- what demand 3 says of the answer of opening for a day, where the members have the points xs
pub record Sound (xs : List ℕ) (t d day present : ℕ) (secret dealt words : List ℕ) (answer : Opened) : Type 0 where
  -- the survivors are the largest set for the votes of what is handed in, and hold every member as dealt
  pub largest : Largest t (vote_rows t d day (usable t d present words) words) answer.survivors
  pub holds : (i : ℕ) → i < size t → AsDealt t d present dealt words i → has answer.survivors i ≡ true
  -- opening opens, or refuses with 16, and with 16 exactly where no polynomials of degree at most t have enough survivors agreeing
  pub opens_or_16 : (answer.number ≡ 0) ⊎ (answer.number ≡ 16)
  pub refuses_only : answer.number ≡ 16 → (f : ℕ → List ℕ) → ¬ Fitting xs t d words answer.survivors f
  pub refuses_if : ((f : ℕ → List ℕ) → ¬ Fitting xs t d words answer.survivors f) → answer.number ≡ 16
  pub opens_only : answer.number ≡ 0 → (f : ℕ → List ℕ) × Fitting xs t d words answer.survivors f
  -- the answer is the only one: any two choices have the same values at 0 and the same agreeing survivors, and those are the answer
  pub only :
      (f g : ℕ → List ℕ) → Fitting xs t d words answer.survivors f
      → Fitting xs t d words answer.survivors g
      → (at_zero_of d f ≡ at_zero_of d g)
      × (agreed xs t d words answer.survivors f ≡ agreed xs t d words answer.survivors g)
  pub answers :
      (f : ℕ → List ℕ) → Fitting xs t d words answer.survivors f
      → (answer.number ≡ 0)
      × (answer.secret ≡ at_zero_of d f)
      × (answer.agreeing ≡ agreed xs t d words answer.survivors f)
  -- the dealt secret, where the survivors with altered share words are at most half the surplus
  pub dealt_secret :
      card (size t) (altered t d dealt words answer.survivors) ≤ surplus t (card (size t) answer.survivors) / 2
      → (answer.number ≡ 0) × (answer.secret ≡ secret)

-- Demand 2: the present members are at least t + 1 and meet the quorum, and their shares are as dealt. Then all of them survive and agree,
-- the answer is the secret, and no vote is mismatched.
unfoldable pub Demand2 : Type 0
Demand2 =
    (t day present quorum : ℕ) (secret random dealt words : List ℕ)
    → Dealing t day secret random dealt
    → HandedIn t (length secret) present quorum words
    → ((i : ℕ) → i < size t → has present i ≡ true → AsDealt t (length secret) present dealt words i)
    → reconstruct t (length secret) day present quorum words
    ≡ record {
      opened = record { number = 0; survivors = present; agreeing = present; secret = secret };
      pairs = none_mismatched (size t) (card (size t) present);
    }

-- Demand 3: at least t + 1 shares are handed in as dealt and the quorum is met, whatever was done to the others.
unfoldable pub Demand3 : Type 0
Demand3 =
    (t day present quorum : ℕ) (secret random dealt words : List ℕ)
    → Dealing t day secret random dealt
    → HandedIn t (length secret) present quorum words
    → (honest : ℕ) → suc t ≤ card (size t) honest
    → ((i : ℕ) → i < size t → has honest i ≡ true → AsDealt t (length secret) present dealt words i)
    → Sound (own_points t) t (length secret) day present secret dealt words (reconstruct t (length secret) day present quorum words).opened
