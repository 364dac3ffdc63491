-- Document 02's example of the weights, and corners of the table, the sums and the look. Proved in proofs/Examples.antt.
use Rattle.std.specs.Prelude.{ℕ, ◌≡◌, true, false, List, [], ◌∷◌, length, get_or, take, drop, replicate}
use Rattle.parity.specs.Parity.{sign, weights, place, parity, balanced}
use Rattle.parity.specs.Internal.Looking.{constant, looked, with_values}

-- the words of members 0, 1, ..
abbrev pub words_of : List ℕ → ℕ → ℕ
words_of ys i = get_or ys i 0

-- member i's word k, where each list has the words of one place
abbrev pub places_of : List (List ℕ) → ℕ → ℕ → ℕ
places_of columns i k = get_or (get_or columns k []) i 0

-- the squares and the cubes of 1 to 5
abbrev pub squares : List ℕ
squares = 1 ∷ 4 ∷ 9 ∷ 16 ∷ 25 ∷ []

abbrev pub cubes : List ℕ
cubes = 1 ∷ 8 ∷ 27 ∷ 64 ∷ 125 ∷ []

pub record Examples : Type 0 where
  -- document 02's three words of n = 3; those of n = 5; how many there are, and the last two
  pub of_three : take 3 weights ≡ 32761 ∷ 65520 ∷ 32761 ∷ []
  pub of_five : take 5 (drop 3 weights) ≡ 62791 ∷ 10920 ∷ 49141 ∷ 10920 ∷ 62791 ∷ []
  pub many : length weights ≡ 255
  pub last_two : drop 253 weights ≡ 1656 ∷ 13049 ∷ []
  -- the places of the first of n = 3 and n = 5, and of the last
  pub first_place : place 1 0 ≡ 0
  pub next_place : place 2 0 ≡ 3
  pub last_place : place 15 30 ≡ 254
  pub even : sign 2 ≡ 1
  pub odd : sign 1 ≡ 65520
  -- C5's words lie on a line, those of document 01's text do not
  pub line_passes : balanced 1 (words_of (253 ∷ 256 ∷ 259 ∷ [])) ≡ true
  pub altered_fails : balanced 1 (words_of (253 ∷ 256 ∷ 300 ∷ [])) ≡ false
  -- t = 2: squares pass, and cubes fail at the last sum alone
  pub squares_pass : balanced 2 (words_of squares) ≡ true
  pub cubes_first : parity 5 0 (words_of cubes) ≡ 0
  pub cubes_last : parity 5 1 (words_of cubes) ≡ 1
  pub cubes_fail : balanced 2 (words_of cubes) ≡ false
  -- sums are taken modulo p
  pub of_p : balanced 1 (words_of (65521 ∷ 0 ∷ 0 ∷ [])) ≡ true
  -- values at 0
  pub line_at_0 : constant 3 (words_of (253 ∷ 256 ∷ 259 ∷ [])) ≡ 250
  pub squares_at_0 : constant 5 (words_of squares) ≡ 0
  -- a word that fails ends the look, whatever comes after it
  pub all_pass : looked 1 2 (places_of ((253 ∷ 256 ∷ 259 ∷ []) ∷ (1 ∷ 2 ∷ 3 ∷ []) ∷ [])) ≡ 2
  pub second_fails : looked 1 3 (places_of ((253 ∷ 256 ∷ 259 ∷ []) ∷ (1 ∷ 2 ∷ 4 ∷ []) ∷ (5 ∷ 5 ∷ 5 ∷ []) ∷ [])) ≡ 1
  pub first_fails : looked 1 2 (places_of ((1 ∷ 2 ∷ 4 ∷ []) ∷ (5 ∷ 5 ∷ 5 ∷ []) ∷ [])) ≡ 0
  pub stored : with_values 1 1 (places_of ((253 ∷ 256 ∷ 259 ∷ []) ∷ [])) (replicate 3 9) ≡ 250 ∷ 9 ∷ 9 ∷ []
