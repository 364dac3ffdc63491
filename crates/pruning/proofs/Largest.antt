-- The survivors are the largest set in which every member is accepted by at least t + 1 members of it, whatever the order of striking.
-- Assumes nothing.
use mathlib.Core.Path.{◌≡◌, refl, sym, ap, ◌∙◌}
use mathlib.Core.Logic.{◌⊎◌, inl, inr}
use mathlib.Core.Bool.{true, ◌&&◌}
use mathlib.Core.List.{List}
use Prim.Native.Nat.{ℕ, zero, suc, ◌≤◌, ◌<◌, ◌^◌, zero-le}
use native.Mathlib.Nat.{le_trans, le_of_suc-le-suc}
use native.Mathlib.Omega.{arith}
use lib.Dec.{leb, ltb}
use lib.ListN.{get_or}
use borrow.Author.Tests.{leb-true, le-leb, ltb-true, ltb-false}
use Rattle.lists.proofs.Bools.{and_intro, and_left, and_right, test, clash}
use Rattle.lists.proofs.Count.{count_mono, count_some}
use Rattle.members.specs.Members.{size, has, set_of, card}
use Rattle.members.proofs.Masks.{has-zero, has-set_of, set_of-lt, subsets_equal, card-le, card_same, card_none, card_some}
use Rattle.pruning.specs.Pruning.{votes, round, rounds, survivors, Closed, Largest}

-- every closed set is contained in this one
pub record Above (t : ℕ) (rows : List ℕ) (set : ℕ) : Type 0 where
  pub contains : (other : ℕ) → other < 2 ^ size t → Closed t rows other → (i : ℕ) → i < size t → has other i ≡ true → has set i ≡ true

module _ (t : ℕ) (rows : List ℕ) where
  -- more members, no fewer votes
  pub votes_mono : (a b : ℕ) → ((j : ℕ) → j < size t → has a j ≡ true → has b j ≡ true) → (i : ℕ) → votes t rows a i ≤ votes t rows b i
  unfolding votes
  votes_mono a b h i =
      count_mono (size t) (λ j. has (get_or rows i 0) j && has a j) (λ j. has (get_or rows i 0) j && has b j)
      (λ j k y. and_intro (and_left (has (get_or rows i 0) j) (has a j) y) (h j k (and_right (has (get_or rows i 0) j) (has a j) y)))

  -- nobody has more votes than the set has members
  pub votes-card : (set i : ℕ) → votes t rows set i ≤ card (size t) set
  unfolding votes card
  votes-card set i =
      count_mono (size t) (λ j. has (get_or rows i 0) j && has set j) (has set) (λ j k y. and_right (has (get_or rows i 0) j) (has set j) y)

  -- a closed set is empty or has at least t + 1 members
  pub closed_size : (set : ℕ) → set < 2 ^ size t → Closed t rows set → (set ≡ 0) ⊎ (suc t ≤ card (size t) set)
  closed_size set below closed =
      elim (test (ltb 0 (card (size t) set))) [
        | inl y ↦ inr (some_member (card_some (size t) set (ltb-true 0 (card (size t) set) y)))
        | inr n ↦ inl (card_none (size t) set below (ltb-false 0 (card (size t) set) n))
      ]
    where
      some_member : (i : ℕ) × (i < size t) × (has set i ≡ true) → suc t ≤ card (size t) set
      some_member m = le_trans (closed.accepted m.0 m.1 m.2) (votes-card set m.0)

  -- ---- striking

  -- Whatever is struck only for having fewer than t + 1 votes from the set is in no closed set.
  pub above_strike : (set next : ℕ) → Above t rows set
      → ((i : ℕ) → i < size t → has set i ≡ true → suc t ≤ votes t rows set i → has next i ≡ true) → Above t rows next
  above_strike set next above keeps =
      record {
        contains =
            λ other below closed i k y.
            keeps i k (above.contains other below closed i k y)
            (le_trans (closed.accepted i k y) (votes_mono other set (above.contains other below closed) i));
      }

  pub above_all : Above t rows (set_of (size t) (λ i. true))
  above_all = record { contains = λ other below closed i k y. has-set_of (size t) (λ j. true) i k }

  -- two largest sets are equal
  pub largest_unique : (a b : ℕ) → Largest t rows a → Largest t rows b → a ≡ b
  largest_unique a b la lb =
      subsets_equal (size t) a b la.below lb.below (lb.contains a la.below la.closed) (la.contains b lb.below lb.closed)

  -- ---- rounds

  pub has-round : (set i : ℕ) → i < size t → has (round t rows set) i ≡ has set i && leb (suc t) (votes t rows set i)
  unfolding round
  has-round set i k = has-set_of (size t) (λ j. has set j && leb (suc t) (votes t rows set j)) i k

  pub round-lt : (set : ℕ) → round t rows set < 2 ^ size t
  unfolding round
  round-lt set = set_of-lt (size t) (λ j. has set j && leb (suc t) (votes t rows set j))

  pub round-within : (set i : ℕ) → i < size t → has (round t rows set) i ≡ true → has set i ≡ true
  round-within set i k y = and_left (has set i) (leb (suc t) (votes t rows set i)) (sym (has-round set i k) ∙ y)

  pub above_round : (set : ℕ) → Above t rows set → Above t rows (round t rows set)
  above_round set above =
      above_strike set (round t rows set) above (λ i k y v. has-round set i k ∙ and_intro y (le-leb (suc t) (votes t rows set i) v))

  -- a set that a round leaves as it is is closed
  pub fixed_closed : (set : ℕ) → round t rows set ≡ set → Closed t rows set
  fixed_closed set e =
      record {
        accepted =
            λ i k y.
            leb-true (suc t) (votes t rows set i)
            (and_right (has set i) (leb (suc t) (votes t rows set i)) (sym (has-round set i k) ∙ ap (λ (s : ℕ). has s i) e ∙ y));
      }

  -- and any number of rounds leave it as it is
  pub rounds_fixed : (k set : ℕ) → round t rows set ≡ set → rounds k t rows set ≡ set
  unfolding rounds
  rounds_fixed zero set e = refl
  rounds_fixed (suc k) set e = ap (rounds k t rows) e ∙ rounds_fixed k set e

  pub rounds-lt : (k set : ℕ) → set < 2 ^ size t → rounds k t rows set < 2 ^ size t
  unfolding rounds
  rounds-lt zero set h = h
  rounds-lt (suc k) set h = rounds-lt k (round t rows set) (round-lt set)

  pub above_rounds : (k set : ℕ) → Above t rows set → Above t rows (rounds k t rows set)
  unfolding rounds
  above_rounds zero set above = above
  above_rounds (suc k) set above = above_rounds k (round t rows set) (above_round set above)

  -- a round that strikes nobody leaves the set as it is
  round_same : (set : ℕ) → set < 2 ^ size t → card (size t) set ≤ card (size t) (round t rows set) → round t rows set ≡ set
  round_same set h l = card_same (size t) (round t rows set) set (round-lt set) h (round-within set) l

  -- Each round strikes a member or leaves the set as it is, so as many rounds as the set has members are enough.
  pub rounds_settle : (k set : ℕ) → set < 2 ^ size t → card (size t) set ≤ k → round t rows (rounds k t rows set) ≡ rounds k t rows set
  unfolding rounds
  rounds_settle zero set h l = round_same set h (le_trans l zero-le)
  rounds_settle (suc k) set h l =
      elim (test (ltb (card (size t) (round t rows set)) (card (size t) set))) [
        | inl y ↦
            rounds_settle k (round t rows set) (round-lt set)
            (le_of_suc-le-suc (le_trans (ltb-true (card (size t) (round t rows set)) (card (size t) set) y) l))
        | inr n ↦ settled (round_same set h (ltb-false (card (size t) (round t rows set)) (card (size t) set) n))
      ]
    where
      settled : round t rows set ≡ set → round t rows (rounds k t rows (round t rows set)) ≡ rounds k t rows (round t rows set)
      settled e =
          let f : rounds k t rows (round t rows set) ≡ set = ap (rounds k t rows) e ∙ rounds_fixed k set e in
          ap (round t rows) f ∙ e ∙ sym f

  -- ---- the survivors

  pub survivors_largest : Largest t rows (survivors t rows)
  unfolding survivors
  survivors_largest =
      record {
        below = rounds-lt (size t) (set_of (size t) (λ i. true)) (set_of-lt (size t) (λ i. true));
        closed =
            fixed_closed (rounds (size t) t rows (set_of (size t) (λ i. true)))
            (rounds_settle (size t) (set_of (size t) (λ i. true)) (set_of-lt (size t) (λ i. true)) (card-le (size t) (set_of (size t) (λ i. true))));
        contains = (above_rounds (size t) (set_of (size t) (λ i. true)) above_all).contains;
      }

  pub survivors_size : (survivors t rows ≡ 0) ⊎ (suc t ≤ card (size t) (survivors t rows))
  survivors_size = closed_size (survivors t rows) survivors_largest.below survivors_largest.closed

  -- a survivor has a vote
  pub survivor_voted : (i : ℕ) → i < size t → has (survivors t rows) i ≡ true → get_or rows i 0 ≡ 0 → ⊥
  unfolding votes
  survivor_voted i l h none =
      let set : ℕ = survivors t rows in
      let (j, below, both) : (j : ℕ) × (j < size t) × (has (get_or rows i 0) j && has set j ≡ true) =
      count_some (size t) (λ j. has (get_or rows i 0) j && has set j) (omega (arith, survivors_largest.closed.accepted i l h)) in
      clash (and_left (has (get_or rows i 0) j) (has set j) both) (ap (λ (m : ℕ). has m j) none ∙ has-zero j)

  -- where nobody has a vote nobody survives
  pub no_votes : ((i : ℕ) → i < size t → get_or rows i 0 ≡ 0) → survivors t rows ≡ 0
  no_votes none =
      elim survivors_size [
        | inl e ↦ e
        | inr many ↦
            let (i, below, e) : (i : ℕ) × (i < size t) × (has (survivors t rows) i ≡ true) = card_some (size t) (survivors t rows) (omega (arith, many)) in
            absurd (survivor_voted i below e (none i below))
      ]

  -- In whatever order members are struck: a closed set that every closed set is contained in is the survivors.
  pub struck_survivors : (set : ℕ) → set < 2 ^ size t → Above t rows set → Closed t rows set → set ≡ survivors t rows
  struck_survivors set below above closed =
      largest_unique set (survivors t rows) (record { below = below; closed = closed; contains = above.contains }) survivors_largest
