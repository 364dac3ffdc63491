-- What t members know (document 02, W-207): what they hold, every secret of that length gives them, each with as many lists of random words. Proved in
-- proofs/Secrecy.antt.
use Rattle.std.specs.Prelude.{ℕ, ◌*◌, ◌%◌, ◌≤◌, ◌<◌, ◌≡◌, true, List, [], ◌∷◌, length, get_or, drop}
use Rattle.lists.specs.Tabulate.{each}
use Rattle.field.specs.Field.{prime, is_field_word}
use Rattle.members.specs.Members.{size, has, card}
use Rattle.shares.specs.Sample.{sample}
use Rattle.dealing.specs.Dealing.{random_length, dealt_shares}
use Rattle.dealing.specs.Examples.{random5}
use Rattle.claims.specs.Demands.{Dealing, AsDealt}
use Rattle.claims.specs.General.{Points}

-- the key words among the random words: all that follow the t·d coefficients
abbrev pub key_words : ℕ → ℕ → List ℕ → List ℕ
key_words t d random = drop (t * d) random

-- dealing accepts the secret and the random words for the day, and gives each member of the set the share that it holds, word for word; what stands in
-- `held` for other members is not looked at
pub record Gives (t day members : ℕ) (held secret random : List ℕ) : Type 0 where
  pub dealt : List ℕ
  pub dealing : Dealing t day secret random dealt
  pub as_held : (i : ℕ) → i < size t → has members i ≡ true → AsDealt t (length secret) members dealt held i

-- exactly one list meets a condition
pub record ExactlyOne (P : List ℕ → Type 0) : Type 0 where
  pub list : List ℕ
  pub meets : P list
  pub only : (l : List ℕ) → P l → l ≡ list

-- For any two secrets of equal length, any t, any day and any t members: to each list of random words for the first there is exactly one for the second
-- that has the same key words and gives those members the same shares, in every word.
unfoldable pub Secrecy : Type 0
Secrecy =
    (t day members : ℕ) (secret other random dealt : List ℕ)
    → Dealing t day secret random dealt
    → length other ≡ length secret → each is_field_word other ≡ true → card (size t) members ≡ t
    → ExactlyOne (λ r. (key_words t (length other) r ≡ key_words t (length other) random) × Gives t day members dealt other r)

-- as many lists meet one condition as another: a map from those to these, and its inverse
pub record AsMany (P Q : List ℕ → Type 0) : Type 0 where
  pub to : List ℕ → List ℕ
  pub back : List ℕ → List ℕ
  pub to_meets : (l : List ℕ) → P l → Q (to l)
  pub back_meets : (l : List ℕ) → Q l → P (back l)
  pub there_and_back : (l : List ℕ) → P l → back (to l) ≡ l
  pub back_and_there : (l : List ℕ) → Q l → to (back l) ≡ l

-- So whatever at most t members hold, as many lists of random words give it with one secret as with any other of equal length.
unfoldable pub PerfectSecrecy : Type 0
PerfectSecrecy =
    (t day members : ℕ) (held secret other : List ℕ)
    → length other ≡ length secret → each is_field_word secret ≡ true → each is_field_word other ≡ true
    → card (size t) members ≤ t
    → AsMany (Gives t day members held secret) (Gives t day members held other)

-- `Gives` for dealing at the points xs; of dealing's checks only those of the random words, 3 and 6, are asked
pub record GivesAt (xs : List ℕ) (t day members : ℕ) (held secret random : List ℕ) : Type 0 where
  pub long : length random ≡ random_length t (length secret)
  pub words : each is_field_word random ≡ true
  pub as_held : (i : ℕ) → i < size t → has members i ≡ true → AsDealt t (length secret) members (dealt_shares xs t day secret random) held i

-- `Secrecy` for any points that are distinct and not 0 modulo p, and any numbers as t, day, length and words of the first secret
unfoldable pub SecrecyAnywhere : Type 0
SecrecyAnywhere =
    (xs : List ℕ) (t day members : ℕ) (secret other random : List ℕ)
    → Points (size t) xs → ((i : ℕ) → i < size t → ¬ (get_or xs i 0 % prime ≡ 0))
    → length random ≡ random_length t (length secret) → each is_field_word random ≡ true
    → length other ≡ length secret → each is_field_word other ≡ true
    → card (size t) members ≡ t
    → ExactlyOne
    (λ r. (key_words t (length other) r ≡ key_words t (length other) random)
    × GivesAt xs t day members (dealt_shares xs t day secret random) other r)

-- C5's random words with another coefficient, and the shares of the secret 7 that 32885 gives
abbrev pub random7 : ℕ → List ℕ
random7 coefficient = coefficient ∷ key_words 1 1 random5

abbrev pub shares7 : List ℕ
shares7 =
    32892 ∷ 32894 ∷ 529 ∷ 33948 ∷ 1 ∷ 1 ∷ 1 ∷ 2 ∷ 1 ∷ 3
    ∷ 256 ∷ 259 ∷ 1028 ∷ 2309 ∷ 2 ∷ 1 ∷ 2 ∷ 2 ∷ 2 ∷ 3
    ∷ 33141 ∷ 33145 ∷ 1527 ∷ 36191 ∷ 3 ∷ 1 ∷ 3 ∷ 2 ∷ 3 ∷ 3 ∷ []

pub record SecrecyInstances : Type 0 where
  -- t = 1 and C5's dealing of the secret 250. What member 2 (mask 2) holds of it, it holds of the secret 7 too, where the coefficient is 32885 for 3.
  pub c5 : Dealing 1 1 (250 ∷ []) random5 (sample 259)
  pub one_member : card (size 1) 2 ≡ 1
  pub seven : Dealing 1 1 (7 ∷ []) (random7 32885) shares7
  pub share_is_same : (key_words 1 1 (random7 32885) ≡ key_words 1 1 random5) × Gives 1 1 2 (sample 259) (7 ∷ []) (random7 32885)
  -- for nobody (mask 0) the coefficients 3 and 4 both do: fewer than t members leave more than one list
  pub fewer_3 : (key_words 1 1 (random7 3) ≡ key_words 1 1 random5) × Gives 1 1 0 (sample 259) (7 ∷ []) (random7 3)
  pub fewer_4 : (key_words 1 1 (random7 4) ≡ key_words 1 1 random5) × Gives 1 1 0 (sample 259) (7 ∷ []) (random7 4)
  -- what members 1 and 2 (mask 3) hold of 250, no random words give them of 7
  pub more_know : (random : List ℕ) → ¬ Gives 1 1 3 (sample 259) (7 ∷ []) random
  -- nor do any give a member with the point 0 what it holds of 250: that no point is 0 is needed
  pub point_0_knows :
      (random : List ℕ) → ¬ GivesAt (0 ∷ 1 ∷ 2 ∷ []) 1 1 1 (dealt_shares (0 ∷ 1 ∷ 2 ∷ []) 1 1 (250 ∷ []) random5) (7 ∷ []) random
