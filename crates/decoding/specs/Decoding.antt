-- Decoding (document 01), by its rule: of a set of members, the polynomials of degree at most t that enough of them meet.
-- One word is the case d = 1; opening takes d words with one common set of agreeing members. Member i has the point at place i of
-- the list xs, and y i k is its word at place k.
-- Assumes nothing.
use Rattle.std.specs.Prelude.{ℕ, suc, ◌+◌, ◌-◌, ◌/◌, ◌≤◌, ◌<◌, ◌&&◌, ◌||◌, not, List, [], ◌∷◌, map, leb, eqb, length, get_or, replicate}
use Rattle.std.proofs.Math.Option.{Option, none, some}
use Rattle.lists.specs.Tabulate.{tab, all, first, choose}
use Rattle.lists.specs.Checks.{◌unless◌, checked}
use Rattle.field.specs.Field.{is_field_word}
use Rattle.polynomial.specs.Polynomial.{value, interpolate}
use Rattle.members.specs.Members.{is_threshold, size, own_points, has, set_of, is_set, card, members_of}

-- the surplus c of a set of s members
unfoldable pub surplus : ℕ → ℕ → ℕ
surplus t s = s - suc t

-- how many of s members have to agree: t + 1 plus half the surplus, rounded up
unfoldable pub need : ℕ → ℕ → ℕ
need t s = suc t + (surplus t s + 1) / 2

-- the members of the set whose d words lie on the polynomials f 0, .., f (d − 1)
unfoldable pub agreeing : List ℕ → ℕ → ℕ → (ℕ → ℕ → ℕ) → ℕ → (ℕ → List ℕ) → ℕ
agreeing xs t d y set f = set_of (size t) (λ i. has set i && all d (λ k. eqb (value (f k) (get_or xs i 0)) (y i k)))

-- f 0, .., f (d − 1) are polynomials of degree at most t, and enough members of the set agree with them
pub record Fits (xs : List ℕ) (t d : ℕ) (y : ℕ → ℕ → ℕ) (set : ℕ) (f : ℕ → List ℕ) : Type 0 where
  pub degree : (k : ℕ) → k < d → length (f k) ≤ suc t
  pub enough : need t (card (size t) set) ≤ card (size t) (agreeing xs t d y set f)

-- place k of a list of polynomials
abbrev pub nth : List (List ℕ) → ℕ → List ℕ
nth fs k = get_or fs k []

-- the polynomials through the words of the members ms, one for each of the d places
unfoldable pub through : List ℕ → ℕ → (ℕ → ℕ → ℕ) → List ℕ → List (List ℕ)
through xs d y ms = tab d (λ k. interpolate (map (λ i. get_or xs i 0) ms) (map (λ i. y i k) ms))

-- the polynomials that enough members of the set agree with, looked for through each t + 1 of its members
unfoldable pub find : List ℕ → ℕ → ℕ → (ℕ → ℕ → ℕ) → ℕ → Option (List (List ℕ))
find xs t d y set =
    first (λ fs. leb (need t (card (size t) set)) (card (size t) (agreeing xs t d y set (nth fs))))
    (map (through xs d y) (choose (suc t) (members_of (size t) set)))

-- what decoding answers: 0 or the refusal's number, and the coefficient buffer at exit
pub record Decoded : Type 0 where
  pub number : ℕ
  pub coefficients : List ℕ

-- a refusal fills the buffer with 65535
unfoldable pub undecoded : ℕ → ℕ → Decoded
undecoded len k = record { number = k; coefficients = replicate len 65535 }

-- a polynomial that is found
abbrev pub found : List ℕ → Decoded
found f = record { number = 0; coefficients = f }

unfoldable pub decoded_from : ℕ → Option (List (List ℕ)) → Decoded
decoded_from len none = undecoded len 16
decoded_from len (some fs) = found (nth fs 0)

-- the buffer has len words
unfoldable pub decode : ℕ → List ℕ → ℕ → ℕ → Decoded
decode t values set len =
    let answer : Decoded = decoded_from len (find (own_points t) t 1 (λ i k. get_or values i 0) set) in
    checked (undecoded len)
    (1 unless is_threshold t
    ∷ 11 unless eqb (length values) (size t)
    ∷ 19 unless eqb len (suc t)
    ∷ 12 unless is_set (size t) set
    ∷ 17 unless leb (suc t) (card (size t) set)
    ∷ 18 unless all (size t) (λ i. not (has set i) || is_field_word (get_or values i 0))
    ∷ [])
    answer
