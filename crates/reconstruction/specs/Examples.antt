-- Document 01's examples of opening, for day 1, and corners that they leave open. Proved in proofs/Examples.antt.
use Rattle.std.specs.Prelude.{ℕ, ◌≡◌, List, [], ◌∷◌, set, replicate}
use Rattle.shares.specs.Sample.{sample, day_seven, keyless}
use Rattle.voting.specs.Examples.{second, unaccepted, tally}
use Rattle.voting.specs.Votes.{Pairs}
use Rattle.reconstruction.specs.Reconstruction.{unopened, required, Answered, turned_away, reconstruct}

abbrev pub opened : ℕ → ℕ → Pairs → List ℕ → Answered
opened survived agreed pairs words =
    record { opened = record { number = 0; survivors = survived; agreeing = agreed; secret = words }; pairs = pairs }

-- refused, with the counts
abbrev pub refused_with : ℕ → ℕ → Pairs → ℕ → Answered
refused_with d survived pairs k = record { opened = unopened d survived k; pairs = pairs }

-- C9's shares: the sample text
abbrev pub C9Opened : Type 0
C9Opened = reconstruct 1 1 1 7 0 (sample 300) ≡ opened 3 3 (tally 6 3 0) (250 ∷ [])

-- C10: C5 dealt with all keys 0, member 3's word made 300: refusal 16, survivors 7
abbrev pub C10Opened : Type 0
C10Opened = reconstruct 1 1 1 7 0 (keyless 300) ≡ refused_with 1 7 (tally 9 0 0) 16

-- C11: C5, only member 1 present: 14
abbrev pub C11 : Type 0
C11 = reconstruct 1 1 1 1 0 (sample 259) ≡ refused_with 1 0 (tally 1 0 8) 14

-- C12 (document 02, W-202): C5, members 1 and 2 present, quorum 2: 250
abbrev pub C12 : Type 0
C12 = reconstruct 1 1 1 3 2 (sample 259) ≡ opened 3 3 (tally 4 0 5) (250 ∷ [])

-- the same with quorum 0: 14
abbrev pub C12Default : Type 0
C12Default = reconstruct 1 1 1 3 0 (sample 259) ≡ refused_with 1 0 (tally 4 0 5) 14

-- t = 2, d = 2, all shares zero, but member 4's first word 1 and member 5's second word x
abbrev pub zeros22 : ℕ → List ℕ
zeros22 x = set (set (replicate 85 0) 51 1) 69 x

-- C13: member 4's first word made 1: secret 0, 0, survivors 31, agreeing 23
abbrev pub C13 : Type 0
C13 = reconstruct 2 2 1 31 0 (zeros22 0) ≡ opened 31 23 (tally 25 0 0) (0 ∷ 0 ∷ [])

-- C14: also member 5's second word made 1: 16, survivors 31
abbrev pub C14 : Type 0
C14 = reconstruct 2 2 1 31 0 (zeros22 1) ≡ refused_with 2 31 (tally 25 0 0) 16

pub record Examples : Type 0 where
  pub c9_opened : C9Opened
  pub c10_opened : C10Opened
  pub c11 : C11
  pub c12 : C12
  pub c12_default : C12Default
  pub c13 : C13
  pub c14 : C14
  -- three present and two usable: a quorum of 3 is not met, one of 2 is
  pub quorum_above_usable : reconstruct 1 1 1 7 3 (second 9 65521) ≡ refused_with 1 0 (tally 4 0 5) 14
  pub quorum_of_usable : reconstruct 1 1 1 7 2 (second 9 65521) ≡ opened 5 5 (tally 4 0 5) (250 ∷ [])
  pub quorum_of_all : reconstruct 1 1 1 7 3 (sample 259) ≡ opened 7 7 (tally 9 0 0) (250 ∷ [])
  -- quorum 0 stands for t + 2: at t = 1 for all three members, at t = 2 for four of five, at t = 15 for 17 of 31
  pub default_of_three : reconstruct 1 1 1 7 0 (sample 259) ≡ opened 7 7 (tally 9 0 0) (250 ∷ [])
  pub default_above_usable : reconstruct 1 1 1 7 0 (second 9 65521) ≡ refused_with 1 0 (tally 4 0 5) 14
  pub default_of_four : reconstruct 2 2 1 23 0 (zeros22 0) ≡ opened 23 23 (tally 16 0 9) (0 ∷ 0 ∷ [])
  pub default_above_three : reconstruct 2 2 1 7 0 (zeros22 0) ≡ refused_with 2 0 (tally 9 0 16) 14
  pub quorum_of_three : reconstruct 2 2 1 7 3 (zeros22 0) ≡ opened 7 7 (tally 9 0 16) (0 ∷ 0 ∷ [])
  pub default_of_17 : required 15 0 ≡ 17
  -- members 4 and 5 are absent: their zeros do not vote, so member 3 has two votes, and then nobody has three
  pub absent_do_not_vote : reconstruct 2 1 1 7 3 unaccepted ≡ refused_with 1 0 (tally 8 1 16) 15
  pub present_vote : reconstruct 2 1 1 31 0 unaccepted ≡ opened 31 31 (tally 24 1 0) (0 ∷ [])
  -- both ends of the days, and no counts beyond them; 65522 is not taken for 1
  pub day_0 : reconstruct 1 1 0 7 0 (keyless 259) ≡ refused_with 1 0 (tally 0 0 0) 32
  pub day_65520 : reconstruct 1 1 65520 7 0 (keyless 259) ≡ opened 7 7 (tally 9 0 0) (250 ∷ [])
  pub day_65521 : reconstruct 1 1 65521 7 0 (keyless 259) ≡ turned_away 1 32
  pub day_65522 : reconstruct 1 1 65522 7 0 (sample 259) ≡ turned_away 1 32
  -- shares of day 7, for that day; and another day's shares: no tag holds, so nobody survives
  pub day_7 : reconstruct 1 1 7 7 0 day_seven ≡ opened 7 7 (tally 9 0 0) (250 ∷ [])
  pub another_day : reconstruct 1 1 2 7 0 (sample 259) ≡ refused_with 1 0 (tally 0 9 0) 15
  -- an input with two faults gets the earlier number; a refusal before the votes counts none, one after them the true ones
  pub threshold_before_length : reconstruct 0 0 1 0 0 [] ≡ turned_away 0 1
  pub threshold_16_before_length : reconstruct 16 0 1 0 0 [] ≡ turned_away 0 1
  pub length_before_day : reconstruct 1 0 0 7 0 [] ≡ turned_away 0 2
  pub day_before_words : reconstruct 1 1 0 7 0 [] ≡ turned_away 1 32
  pub length_before_words : reconstruct 1 0 1 7 0 [] ≡ turned_away 0 2
  pub length_65_before_words : reconstruct 1 65 1 7 0 [] ≡ turned_away 65 2
  pub words_before_bits : reconstruct 1 1 1 8 0 [] ≡ turned_away 1 11
  pub bits_before_quorum : reconstruct 1 1 1 8 1 (sample 259) ≡ turned_away 1 12
  pub quorum_before_usable : reconstruct 1 1 1 0 1 (sample 259) ≡ turned_away 1 13
  pub quorum_above_n : reconstruct 1 1 1 0 4 (sample 259) ≡ refused_with 1 0 (tally 0 0 0) 13
  pub usable_before_survivors : reconstruct 1 1 1 3 0 (second 0 0) ≡ refused_with 1 0 (tally 2 2 5) 14
  pub no_survivors : reconstruct 1 1 1 3 2 (second 0 0) ≡ refused_with 1 0 (tally 2 2 5) 15
