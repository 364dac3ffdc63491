-- Dealing (document 01; document 02, W-205): a secret (document 01: record) of d words, split over the shares of n members for a day.
-- Assumes nothing.
use Rattle.std.specs.Prelude.{ℕ, ◌+◌, ◌*◌, List, [], ◌∷◌, eqb, length, get_or, take, drop}
use Rattle.lists.specs.Tabulate.{tab, each, concat}
use Rattle.lists.specs.Checks.{Check, ◌unless◌, checked}
use Rattle.field.specs.Field.{is_field_word}
use Rattle.polynomial.specs.Polynomial.{value}
use Rattle.mac.specs.Tag.{tag}
use Rattle.members.specs.Members.{is_threshold, size, own_points}
use Rattle.shares.specs.Layout.{is_length, is_day, tagged, width, assembled}

-- how many random words a dealing takes
unfoldable pub random_length : ℕ → ℕ → ℕ
random_length t d = t * d + 2 * (size t * size t)

-- polynomial k: its constant coefficient is secret word k, powers 1 to t take the k-th t random words
unfoldable pub polynomial : ℕ → List ℕ → List ℕ → ℕ → List ℕ
polynomial t secret random k = get_or secret k 0 ∷ take t (drop (t * k) random)

-- α and β of key(i,j): after all coefficients, pair by pair, i before j
unfoldable pub dealt_α : ℕ → ℕ → List ℕ → ℕ → ℕ → ℕ
dealt_α t d random i j = get_or random (t * d + 2 * (i * size t + j)) 0

unfoldable pub dealt_β : ℕ → ℕ → List ℕ → ℕ → ℕ → ℕ
dealt_β t d random i j = get_or random (t * d + 2 * (i * size t + j) + 1) 0

-- member i's share words: the d polynomials at its point
unfoldable pub dealt_words : List ℕ → ℕ → List ℕ → List ℕ → ℕ → List ℕ
dealt_words xs t secret random i = tab (length secret) (λ k. value (polynomial t secret random k) (get_or xs i 0))

-- tag(i,j): the tag of the day and i's share words under key(j,i)
unfoldable pub dealt_tag : List ℕ → ℕ → ℕ → List ℕ → List ℕ → ℕ → ℕ → ℕ
dealt_tag xs t day secret random i j =
    tag (dealt_α t (length secret) random j i) (dealt_β t (length secret) random j i) (tagged day (dealt_words xs t secret random i))

-- member i's share: its share words, tag(i,1) .. tag(i,n), key(i,1) .. key(i,n)
unfoldable pub dealt_share : List ℕ → ℕ → ℕ → List ℕ → List ℕ → ℕ → List ℕ
dealt_share xs t day secret random i =
    assembled (dealt_words xs t secret random i) (tab (size t) (dealt_tag xs t day secret random i))
    (concat (tab (size t) (λ j. dealt_α t (length secret) random i j ∷ dealt_β t (length secret) random i j ∷ [])))

-- all shares, in member order
unfoldable pub dealt_shares : List ℕ → ℕ → ℕ → List ℕ → List ℕ → List ℕ
dealt_shares xs t day secret random = concat (tab (size t) (dealt_share xs t day secret random))

-- what dealing answers: 0 or the refusal's number, and the share buffer at exit
pub record Dealt : Type 0 where
  pub number : ℕ
  pub shares : List ℕ

-- the checks, in their order
abbrev pub checks : ℕ → ℕ → List ℕ → List ℕ → List ℕ → List Check
checks t day secret random buffer =
    1 unless is_threshold t
    ∷ 2 unless is_length (length secret)
    ∷ 32 unless is_day day
    ∷ 3 unless eqb (length random) (random_length t (length secret))
    ∷ 4 unless eqb (length buffer) (size t * width t (length secret))
    ∷ 5 unless each is_field_word secret
    ∷ 6 unless each is_field_word random
    ∷ []

-- a refusal leaves the buffer unchanged
unfoldable pub deal : ℕ → ℕ → List ℕ → List ℕ → List ℕ → Dealt
deal t day secret random buffer =
    checked (λ k. record { number = k; shares = buffer }) (checks t day secret random buffer)
    (record { number = 0; shares = dealt_shares (own_points t) t day secret random })
