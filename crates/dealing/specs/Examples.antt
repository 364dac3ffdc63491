-- Document 01's example of dealing, for day 1, and corners that it leaves open. Proved in proofs/Examples.antt.
use Rattle.std.specs.Prelude.{ℕ, ◌≡◌, List, [], ◌∷◌, ◌++◌, replicate}
use Rattle.shares.specs.Sample.{sample, day_seven, keyless}
use Rattle.dealing.specs.Dealing.{Dealt, deal}

abbrev pub dealt : List ℕ → Dealt
dealt words = record { number = 0; shares = words }

-- a refusal leaves the buffer
abbrev pub left : ℕ → List ℕ → Dealt
left k buffer = record { number = k; shares = buffer }

-- a buffer of n words that is not all zeros
abbrev pub buffer : ℕ → List ℕ
buffer n = replicate n 9

-- the coefficient 3, and key(i,j) = (i, j)
abbrev pub random5 : List ℕ
random5 = 3 ∷ 1 ∷ 1 ∷ 1 ∷ 2 ∷ 1 ∷ 3 ∷ 2 ∷ 1 ∷ 2 ∷ 2 ∷ 2 ∷ 3 ∷ 3 ∷ 1 ∷ 3 ∷ 2 ∷ 3 ∷ 3 ∷ []

-- C5: t = 1, day 1, the secret 250, the coefficient 3, key(i,j) = (i, j)
abbrev pub C5 : Type 0
C5 = deal 1 1 (250 ∷ []) random5 (buffer 30) ≡ dealt (sample 259)

-- C10's shares: C5 dealt with all keys 0
abbrev pub C10Dealt : Type 0
C10Dealt = deal 1 1 (250 ∷ []) (3 ∷ replicate 18 0) (buffer 30) ≡ dealt (keyless 259)

-- t = 2, d = 2, for the last day, with unequal coefficients and keys: (100, 7, 65520) and (65520, 11, 13)
abbrev pub random22 : List ℕ
random22 =
    7 ∷ 65520 ∷ 11 ∷ 13 ∷ 3 ∷ 25 ∷ 81 ∷ 171 ∷ 295 ∷ 453
    ∷ 645 ∷ 871 ∷ 1131 ∷ 1425 ∷ 1753 ∷ 2115 ∷ 2511 ∷ 2941 ∷ 3405 ∷ 3903
    ∷ 4435 ∷ 5001 ∷ 5601 ∷ 6235 ∷ 6903 ∷ 7605 ∷ 8341 ∷ 9111 ∷ 9915 ∷ 10753
    ∷ 11625 ∷ 12531 ∷ 13471 ∷ 14445 ∷ 15453 ∷ 16495 ∷ 17571 ∷ 18681 ∷ 19825 ∷ 21003
    ∷ 22215 ∷ 23461 ∷ 24741 ∷ 26055 ∷ 27403 ∷ 28785 ∷ 30201 ∷ 31651 ∷ 33135 ∷ 34653
    ∷ 36205 ∷ 37791 ∷ 39411 ∷ 41065 ∷ []

abbrev pub shares22 : List ℕ
shares22 =
    106 ∷ 23 ∷ 1597 ∷ 14649 ∷ 16114 ∷ 21970 ∷ 4300 ∷ 3 ∷ 25 ∷ 81 ∷ 171 ∷ 295 ∷ 453 ∷ 645 ∷ 871 ∷ 1131 ∷ 1425
    ∷ 110 ∷ 73 ∷ 7830 ∷ 29352 ∷ 18905 ∷ 15373 ∷ 43427 ∷ 1753 ∷ 2115 ∷ 2511 ∷ 2941 ∷ 3405 ∷ 3903 ∷ 4435 ∷ 5001 ∷ 5601 ∷ 6235
    ∷ 112 ∷ 149 ∷ 52224 ∷ 7916 ∷ 34275 ∷ 5118 ∷ 51109 ∷ 6903 ∷ 7605 ∷ 8341 ∷ 9111 ∷ 9915 ∷ 10753 ∷ 11625 ∷ 12531 ∷ 13471 ∷ 14445
    ∷ 112 ∷ 251 ∷ 65020 ∷ 35397 ∷ 62578 ∷ 54770 ∷ 31515 ∷ 15453 ∷ 16495 ∷ 17571 ∷ 18681 ∷ 19825 ∷ 21003 ∷ 22215 ∷ 23461 ∷ 24741 ∷ 26055
    ∷ 110 ∷ 379 ∷ 5347 ∷ 3693 ∷ 16485 ∷ 26287 ∷ 10294 ∷ 27403 ∷ 28785 ∷ 30201 ∷ 31651 ∷ 33135 ∷ 34653 ∷ 36205 ∷ 37791 ∷ 39411 ∷ 41065 ∷ []

pub record Examples : Type 0 where
  pub c5 : C5
  -- the same for day 7
  pub c5_day_7 : deal 1 7 (250 ∷ []) random5 (buffer 30) ≡ dealt day_seven
  pub c10_dealt : C10Dealt
  pub full_degree : deal 2 65520 (100 ∷ 65520 ∷ []) random22 (buffer 85) ≡ dealt shares22
  -- an input with two faults gets the earlier number, and the buffer stays
  pub threshold_before_length : deal 0 1 [] [] (buffer 3) ≡ left 1 (buffer 3)
  pub threshold_16_before_length : deal 16 1 [] [] (buffer 3) ≡ left 1 (buffer 3)
  pub length_before_day : deal 1 0 [] [] (buffer 27) ≡ left 2 (buffer 27)
  pub day_0_before_random : deal 1 0 (250 ∷ []) [] (buffer 30) ≡ left 32 (buffer 30)
  pub length_before_random : deal 1 1 [] [] (buffer 27) ≡ left 2 (buffer 27)
  pub length_65_before_random : deal 1 1 (replicate 65 0) [] (buffer 3) ≡ left 2 (buffer 3)
  pub random_before_buffer : deal 1 1 (250 ∷ []) (replicate 18 0) (buffer 29) ≡ left 3 (buffer 29)
  pub buffer_before_secret : deal 1 1 (65521 ∷ []) (replicate 19 0) (buffer 31) ≡ left 4 (buffer 31)
  pub secret_before_random_word : deal 1 1 (65521 ∷ []) (65521 ∷ replicate 18 0) (buffer 30) ≡ left 5 (buffer 30)
  pub coefficient_65521 : deal 1 1 (250 ∷ []) (65521 ∷ replicate 18 0) (buffer 30) ≡ left 6 (buffer 30)
  pub last_key_word_65521 : deal 1 1 (250 ∷ []) (replicate 18 0 ++ 65521 ∷ []) (buffer 30) ≡ left 6 (buffer 30)
  -- both ends of the days; 65535 is not taken for 14
  pub day_0 : deal 1 0 (250 ∷ []) (3 ∷ replicate 18 0) (buffer 30) ≡ left 32 (buffer 30)
  pub day_65520 : deal 1 65520 (250 ∷ []) (3 ∷ replicate 18 0) (buffer 30) ≡ dealt (keyless 259)
  pub day_65521 : deal 1 65521 (250 ∷ []) (3 ∷ replicate 18 0) (buffer 30) ≡ left 32 (buffer 30)
  pub day_65535 : deal 1 65535 (250 ∷ []) (3 ∷ replicate 18 0) (buffer 30) ≡ left 32 (buffer 30)
  -- all zeros is accepted
  pub zeros : deal 1 1 (0 ∷ []) (replicate 19 0) (buffer 30) ≡ dealt (replicate 30 0)
