-- Opening for any distinct points. Demand 3 is the case of the members' own points. Proved in proofs/Opening.antt and proofs/Demand3.antt.
use Rattle.std.specs.Prelude.{ℕ, suc, ◌%◌, ◌≤◌, ◌<◌, ◌≡◌, ◌⊎◌, true, List, length, get_or}
use Rattle.lists.specs.Tabulate.{each}
use Rattle.field.specs.Field.{prime, is_field_word}
use Rattle.members.specs.Members.{size, has, card}
use Rattle.shares.specs.Layout.{share_word}
use Rattle.decoding.specs.Decoding.{agreeing, Fits, find}
use Rattle.dealing.specs.Dealing.{dealt_shares}
use Rattle.voting.specs.Votes.{usable, vote_rows}
use Rattle.reconstruction.specs.Reconstruction.{Opened, required, at_zero_of, opened_from, finish}
use Rattle.claims.specs.Demands.{AsDealt, Sound}

-- n points, no two of them the same modulo p
pub record Points (n : ℕ) (xs : List ℕ) : Type 0 where
  pub long : length xs ≡ n
  pub apart : (i j : ℕ) → i < n → j < n → get_or xs i 0 % prime ≡ get_or xs j 0 % prime → i ≡ j

-- the answer a for the set s: each choice of polynomials that fits gives it, and it refuses, with 16, only where none does
pub record Answers (xs : List ℕ) (t d : ℕ) (y : ℕ → ℕ → ℕ) (s : ℕ) (a : Opened) : Type 0 where
  pub survived : a.survivors ≡ s
  pub opens_or_16 : (a.number ≡ 0) ⊎ (a.number ≡ 16)
  pub refuses_only : a.number ≡ 16 → (f : ℕ → List ℕ) → ¬ Fits xs t d y s f
  pub refuses_if : ((f : ℕ → List ℕ) → ¬ Fits xs t d y s f) → a.number ≡ 16
  pub opens_only : a.number ≡ 0 → (f : ℕ → List ℕ) × Fits xs t d y s f
  pub only : (f g : ℕ → List ℕ) → Fits xs t d y s f → Fits xs t d y s g → (at_zero_of d f ≡ at_zero_of d g) × (agreeing xs t d y s f ≡ agreeing xs t d y s g)
  pub answers : (f : ℕ → List ℕ) → Fits xs t d y s f → (a.number ≡ 0) × (a.secret ≡ at_zero_of d f) × (a.agreeing ≡ agreeing xs t d y s f)

-- whatever the points, the words y and the set
unfoldable pub Opening : Type 0
Opening =
    (xs : List ℕ) (t d : ℕ) (y : ℕ → ℕ → ℕ) (s : ℕ) → Points (size t) xs
    → Answers xs t d y s (opened_from xs t d y s (find xs t d y s))

-- what demand 3 says of its answer, for shares dealt at any points for any day, and the second half of opening at the same points for that day
unfoldable pub DealtAnywhere : Type 0
DealtAnywhere =
    (xs : List ℕ) (t day present quorum : ℕ) (secret random words : List ℕ) → Points (size t) xs
    → each is_field_word secret ≡ true → each is_field_word random ≡ true
    → required t quorum ≤ card (size t) (usable t (length secret) present words)
    → (honest : ℕ) → suc t ≤ card (size t) honest
    → ((i : ℕ) → i < size t → has honest i ≡ true → AsDealt t (length secret) present (dealt_shares xs t day secret random) words i)
    → let d : ℕ = length secret in
    let able : ℕ = usable t d present words in
    Sound xs t d day present secret (dealt_shares xs t day secret random) words
    (finish xs t d quorum able (vote_rows t d day able words) (share_word t d words))
