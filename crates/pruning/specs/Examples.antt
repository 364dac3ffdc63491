-- Document 01's examples of pruning, corners that they leave open, and counts before and after a strike. Proved in proofs/Examples.antt.
use Rattle.std.specs.Prelude.{ℕ, ◌+◌, ◌-◌, ◌^◌, ◌≡◌, true, [], ◌∷◌, replicate}
use Rattle.members.specs.Members.{has, striking}
use Rattle.pruning.specs.Pruning.{Pruned, votes, prune}
use Rattle.pruning.specs.Counts.{Table, counted, AfterStrike}

-- the answers: survivors, or a refusal
abbrev pub left : ℕ → Pruned
left set = record { number = 0; survivors = set }

abbrev pub refused : ℕ → Pruned
refused k = record { number = k; survivors = 0 }

-- C6: rows 3, 6, 4 leave 0
abbrev pub C6 : Type 0
C6 = prune 1 (3 ∷ 6 ∷ 4 ∷ []) ≡ left 0

-- C7: rows 7, 7, 7 leave 7
abbrev pub C7 : Type 0
C7 = prune 1 (7 ∷ 7 ∷ 7 ∷ []) ≡ left 7

-- C8: rows 3, 3, 4 leave 3
abbrev pub C8 : Type 0
C8 = prune 1 (3 ∷ 3 ∷ 4 ∷ []) ≡ left 3

pub record Examples : Type 0 where
  pub c6 : C6
  pub c7 : C7
  pub c8 : C8
  -- an input with two faults gets the earlier number
  pub threshold_before_rows : prune 0 [] ≡ refused 1
  pub threshold_16_before_rows : prune 16 [] ≡ refused 1
  pub threshold_before_bits : prune 16 (replicate 33 (2 ^ 33)) ≡ refused 1
  pub rows_before_bits : prune 1 (8 ∷ []) ≡ refused 10
  pub too_many_rows : prune 1 (7 ∷ 7 ∷ 7 ∷ 7 ∷ []) ≡ refused 10
  -- a bit beyond member n in the row of a member that would be struck; bit 31 is beyond every n
  pub bit_in_struck_row : prune 1 (3 ∷ 3 ∷ 8 ∷ []) ≡ refused 12
  pub bit_31 : prune 15 (2 ^ 31 ∷ replicate 30 0) ≡ refused 12
  pub bit_30 : prune 15 (2 ^ 30 ∷ replicate 30 0) ≡ left 0
  -- rows without votes for oneself, and rows that are not symmetric
  pub no_self_votes : prune 1 (6 ∷ 5 ∷ 3 ∷ []) ≡ left 7
  pub not_symmetric : prune 1 (6 ∷ 6 ∷ 6 ∷ []) ≡ left 7
  -- strikes that go on for four rounds; then exactly t + 1 votes
  pub chain : prune 2 (31 ∷ 31 ∷ 13 ∷ 26 ∷ 24 ∷ []) ≡ left 0
  pub just_enough : prune 2 (7 ∷ 7 ∷ 7 ∷ 24 ∷ 24 ∷ []) ≡ left 7

-- counts before and after a strike
pub record Strikes : Type 0 where
  -- C6's counts, and those after member 3, which is in the set, is struck: one vote fewer for members 2 and 3, whom it accepted
  pub c6_table : Table 1 (3 ∷ 6 ∷ 4 ∷ [])
  pub c6_member : has 7 2 ≡ true
  pub c6_counts : counted 1 (3 ∷ 6 ∷ 4 ∷ []) 7 ≡ 2 ∷ 2 ∷ 1 ∷ []
  pub c6_struck : AfterStrike 1 (3 ∷ 6 ∷ 4 ∷ []) 7 2 3 (2 ∷ 1 ∷ 0 ∷ [])
  -- nothing comes off for a member that is not in the set, nor for one that the station has not
  pub struck_again : AfterStrike 1 (3 ∷ 6 ∷ 4 ∷ []) 3 2 3 (2 ∷ 1 ∷ 0 ∷ [])
  pub beyond_counts : counted 1 (11 ∷ 14 ∷ 12 ∷ []) 15 ≡ 2 ∷ 2 ∷ 1 ∷ []
  pub strike_beyond : AfterStrike 1 (11 ∷ 14 ∷ 12 ∷ []) 15 3 7 (2 ∷ 2 ∷ 1 ∷ [])
  -- with t = 16 a mask has no room for all 33 members: striking the first loses the vote of the last
  pub no_room : (votes 16 (2 ^ 32 ∷ []) (2 ^ 32 + 1) 0 ≡ 1) × (votes 16 (2 ^ 32 ∷ []) (striking (2 ^ 32 + 1) 0) 0 ≡ 0)
  -- a member that is not short; the only one left; the last of 31
  pub strike_anyone : AfterStrike 1 (7 ∷ 6 ∷ 7 ∷ []) 7 0 6 (2 ∷ 2 ∷ 2 ∷ [])
  pub strike_only : AfterStrike 1 (7 ∷ 6 ∷ 7 ∷ []) 1 0 0 (0 ∷ 0 ∷ 0 ∷ [])
  pub strike_31st : AfterStrike 15 (replicate 31 (2 ^ 30)) (2 ^ 31 - 1) 30 (2 ^ 30 - 1) (replicate 31 0)
