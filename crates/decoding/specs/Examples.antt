-- Corners of decoding: rounding, full degree, errors, and the order of refusals. Proved in proofs/Examples.antt.
use Rattle.std.specs.Prelude.{ℕ, ◌≡◌, List, [], ◌∷◌, get_or}
use Rattle.std.proofs.Math.Option.{none}
use Rattle.members.specs.Members.{own_points}
use Rattle.decoding.specs.Decoding.{need, find, found, undecoded, decode}

-- a word of member i at place k, from a list of words for each place
abbrev pub from_lists : List (List ℕ) → ℕ → ℕ → ℕ
from_lists places i k = get_or (get_or places k []) i 0

pub record Examples : Type 0 where
  -- t + 1 plus half the surplus rounded up, at surplus 0, 1, 2, 3, 14 and 15
  pub need_at_0 : need 2 3 ≡ 3
  pub need_at_1 : need 2 4 ≡ 4
  pub need_at_2 : need 2 5 ≡ 4
  pub need_at_3 : need 3 7 ≡ 6
  pub need_at_14 : need 15 30 ≡ 23
  pub need_at_15 : need 15 31 ≡ 24
  -- 1 + 2x + 3x² at 1 to 5: no error, one, two; the even surplus 2 bears one
  pub no_error : decode 2 (6 ∷ 17 ∷ 34 ∷ 57 ∷ 86 ∷ []) 31 3 ≡ found (1 ∷ 2 ∷ 3 ∷ [])
  pub one_error : decode 2 (6 ∷ 17 ∷ 35 ∷ 57 ∷ 86 ∷ []) 31 3 ≡ found (1 ∷ 2 ∷ 3 ∷ [])
  pub two_errors : decode 2 (6 ∷ 20 ∷ 40 ∷ 57 ∷ 86 ∷ []) 31 3 ≡ undecoded 3 16
  -- four of five: the odd surplus 1 bears none; a value outside the set is not judged
  pub odd_one_error : decode 2 (6 ∷ 17 ∷ 35 ∷ 57 ∷ 65535 ∷ []) 15 3 ≡ undecoded 3 16
  pub odd_no_error : decode 2 (6 ∷ 17 ∷ 34 ∷ 57 ∷ 65535 ∷ []) 15 3 ≡ found (1 ∷ 2 ∷ 3 ∷ [])
  -- three of five, with a gap: every three values have their polynomial
  pub no_surplus : decode 2 (6 ∷ 17 ∷ 65535 ∷ 65535 ∷ 86 ∷ []) 19 3 ≡ found (1 ∷ 2 ∷ 3 ∷ [])
  -- 5 + 7x² − x³ at 1 to 7: the odd surplus 3 bears one error and not two
  pub cubic_one_error : decode 3 (11 ∷ 26 ∷ 41 ∷ 53 ∷ 55 ∷ 41 ∷ 5 ∷ []) 127 4 ≡ found (5 ∷ 0 ∷ 7 ∷ 65520 ∷ [])
  pub cubic_two_errors : decode 3 (11 ∷ 26 ∷ 41 ∷ 53 ∷ 55 ∷ 41 ∷ 3 ∷ []) 127 4 ≡ undecoded 4 16
  -- 65520 is a field word and 65521 is not
  pub word_65520 : decode 1 (65520 ∷ 0 ∷ 1 ∷ []) 7 2 ≡ found (65519 ∷ 1 ∷ [])
  pub word_65521 : decode 1 (65521 ∷ 0 ∷ 1 ∷ []) 7 2 ≡ undecoded 2 18
  -- an input with two faults gets the earlier number, and a buffer of any length is filled
  pub threshold_before_values : decode 0 [] 0 1 ≡ undecoded 1 1
  pub threshold_16_before_values : decode 16 [] 0 17 ≡ undecoded 17 1
  pub values_before_buffer : decode 1 (1 ∷ 2 ∷ []) 7 5 ≡ undecoded 5 11
  pub buffer_before_bits : decode 1 (1 ∷ 2 ∷ 3 ∷ []) 8 0 ≡ undecoded 0 19
  pub bits_before_few : decode 1 (1 ∷ 2 ∷ 3 ∷ []) 8 2 ≡ undecoded 2 12
  pub few_before_word : decode 1 (65521 ∷ 2 ∷ 3 ∷ []) 1 2 ≡ undecoded 2 17
  pub word_before_none : decode 1 (253 ∷ 65521 ∷ 300 ∷ []) 7 2 ≡ undecoded 2 18
  -- C14's fault: each word alone has its polynomial, and no four members agree with both
  pub first_word_alone : decode 2 (0 ∷ 0 ∷ 0 ∷ 1 ∷ 0 ∷ []) 31 3 ≡ found (0 ∷ 0 ∷ 0 ∷ [])
  pub second_word_alone : decode 2 (0 ∷ 0 ∷ 0 ∷ 0 ∷ 1 ∷ []) 31 3 ≡ found (0 ∷ 0 ∷ 0 ∷ [])
  pub no_common_set : find (own_points 2) 2 2 (from_lists ((0 ∷ 0 ∷ 0 ∷ 1 ∷ 0 ∷ []) ∷ (0 ∷ 0 ∷ 0 ∷ 0 ∷ 1 ∷ []) ∷ [])) 31 ≡ none
