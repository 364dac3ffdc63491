-- What votes have to be for the second half of opening, what the survivors have to be before their words are opened, and what each comes to.
-- Assumes nothing.
use Rattle.std.specs.Prelude.{ℕ, suc, ◌≤◌, ◌<◌, ◌^◌, ◌≡◌, true, cond, List, [], ◌∷◌, eqb, length, get_or, Option, MatchOption}
use Rattle.std.proofs.Math.Option.{none, some}
use Rattle.lists.specs.Tabulate.{each}
use Rattle.field.specs.Field.{prime}
use Rattle.polynomial.specs.Polynomial.{value}
use Rattle.members.specs.Members.{size, own_points, has, set_of, is_set, card, first_of}
use Rattle.shares.specs.Layout.{share_word}
use Rattle.shares.specs.declared.Shape.{Shape}
use Rattle.shares.specs.declared.Shares.{Shares}
use Rattle.parity.specs.Internal.Looking.{looked}
use Rattle.voting.specs.Votes.{usable, vote_rows, pairs}
use Rattle.decoding.specs.Decoding.{find}
use Rattle.reconstruction.specs.declared.Word.{Word}
use Rattle.reconstruction.specs.Reconstruction.{Opened, opened_from, finish, Answered, reconstruct}

-- votes from anywhere: a row for each of n members, and field words as share words of every member that has a vote
pub record Voted (s : Shape) (able : ℕ) (rows words : List ℕ) : Type 0 where
  pub below : able < 2 ^ size s.t
  pub long : length rows ≡ size s.t
  pub sets : each (is_set (size s.t)) rows ≡ true
  pub field : (i : ℕ) → i < size s.t → (get_or rows i 0 ≡ 0 → ⊥) → (k : ℕ) → k < s.d → share_word s.t s.d words i k < prime

-- a set of members that can be decoded: at least t + 1, with field words as share words
pub record Decodable (t d : ℕ) (words : List ℕ) (set : ℕ) : Type 0 where
  pub below : set < 2 ^ size t
  pub enough : suc t ≤ card (size t) set
  pub field : (i : ℕ) → i < size t → has set i ≡ true → (k : ℕ) → k < d → share_word t d words i k < prime

-- word j has a polynomial of degree at most t that all of the set meet, and v is its value at 0
pub record Met (xs : List ℕ) (t : ℕ) (y : ℕ → ℕ → ℕ) (set j v : ℕ) : Type 0 where
  pub f : List ℕ
  pub degree : length f ≤ suc t
  pub meets : (i : ℕ) → i < size t → has set i ≡ true → value f (get_or xs i 0) ≡ y i j
  pub at_zero : v ≡ value f 0

-- the first k words are opened already, with nobody lost
pub record Begun (xs : List ℕ) (t d : ℕ) (y : ℕ → ℕ → ℕ) (set k : ℕ) (secret : List ℕ) : Type 0 where
  pub inside : k ≤ d
  pub each : (j : ℕ) → j < k → Met xs t y set j (get_or secret j 0)

-- the polynomial that is found for word k, the members that meet it, and its value at 0
pub record Got (xs : List ℕ) (t : ℕ) (y : ℕ → ℕ → ℕ) (set k met v : ℕ) : Type 0 where
  pub f : List ℕ
  pub found : find xs t 1 (λ i j. y i k) set ≡ some (f ∷ [])
  pub meets : met ≡ set_of (size t) (λ i. eqb (value f (get_or xs i 0)) (y i k))
  pub at_zero : v ≡ value f 0

-- what word k comes to: nothing if there is no polynomial
abbrev pub Came : List ℕ → ℕ → (ℕ → ℕ → ℕ) → ℕ → ℕ → Option Word → Type 0
Came xs t y set k word = MatchOption word (find xs t 1 (λ i j. y i k) set ≡ none) (λ w. Got xs t y set k w.met w.value)

-- how many words the look opens: where all n members survive, those that pass it before one that does not
abbrev pub quickly : Shape → List ℕ → ℕ → ℕ
quickly s words set = cond (eqb set (first_of s.n)) (looked s.t s.d (share_word s.t s.d words)) 0

-- what the words of the survivors come to
abbrev pub by_words : Shape → List ℕ → ℕ → Opened
by_words s words set =
    let y : ℕ → ℕ → ℕ = share_word s.t s.d words in
    opened_from (own_points s.t) s.t s.d y set (find (own_points s.t) s.t s.d y set)

-- what the usable members and any votes come to
abbrev pub by_votes : Shape → ℕ → ℕ → List ℕ → List ℕ → Opened
by_votes s quorum able rows words = finish (own_points s.t) s.t s.d quorum able rows (share_word s.t s.d words)

-- and with the votes of the shares themselves, and their counts
abbrev pub by_shares : Shape → ℕ → ℕ → ℕ → List ℕ → Answered
by_shares s day present quorum words =
    let able : ℕ = usable s.t s.d present words in
    record { opened = by_votes s quorum able (vote_rows s.t s.d day able words) words; pairs = pairs s.t s.d day able words }

-- an input that passes all checks before the votes, as shares: they are for d, and what they come to is the answer
pub record Accepted (t d day present quorum : ℕ) (words : List ℕ) (s : Shares) : Type 0 where
  pub of_d : s.shape.d ≡ d
  pub opens : reconstruct t d day present quorum words ≡ by_shares s.shape day present quorum s.words.now
