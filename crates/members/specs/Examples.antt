-- Corners of sets of members. Proved in proofs/Examples.antt.
use Rattle.std.specs.Prelude.{◌+◌, ◌-◌, ◌^◌, ◌≡◌, true, false, [], ◌∷◌, eqb}
use Rattle.members.specs.Members.{size, own_points, has, set_of, is_set, card, members_of, adding, striking, first_of, common}

pub record Examples : Type 0 where
  -- document 01's member 1 has the value 1, member 2 the value 2, member 3 the value 4
  pub first_member : set_of 3 (λ i. eqb i 0) ≡ 1
  pub second_member : set_of 3 (λ i. eqb i 1) ≡ 2
  pub third_member : set_of 3 (λ i. eqb i 2) ≡ 4
  pub has_third : has 4 2 ≡ true
  pub has_not_second : has 5 1 ≡ false
  pub all_31 : set_of 31 (λ i. true) ≡ 2 ^ 31 - 1
  pub count_31 : card 31 (2 ^ 31 - 1) ≡ 31
  pub list_of_21 : members_of 5 21 ≡ 0 ∷ 2 ∷ 4 ∷ []
  -- bits beyond the members: for n = 31 only bit 31 is
  pub full_is_set : is_set 31 (2 ^ 31 - 1) ≡ true
  pub beyond_is_not : is_set 31 (2 ^ 31) ≡ false
  pub largest_station : size 15 ≡ 31
  pub points_of_5 : own_points 2 ≡ 1 ∷ 2 ∷ 3 ∷ 4 ∷ 5 ∷ []
  -- a mask holds the members 0 to 31
  pub add_second : adding 5 1 ≡ 7
  pub add_again : adding 5 2 ≡ 5
  pub add_last : adding 5 31 ≡ 2 ^ 31 + 5
  pub add_beyond : adding 5 32 ≡ 5
  pub strike_second : striking 7 1 ≡ 5
  pub strike_again : striking 5 1 ≡ 5
  pub strike_last : striking (2 ^ 31 + 5) 31 ≡ 5
  pub strike_beyond : striking 5 32 ≡ 5
  pub first_3 : first_of 3 ≡ 7
  pub first_0 : first_of 0 ≡ 0
  pub first_33 : first_of 33 ≡ 2 ^ 32 - 1
  pub common_two : common 7 13 ≡ 2
  pub common_last : common (2 ^ 31) (2 ^ 32 - 1) ≡ 1
