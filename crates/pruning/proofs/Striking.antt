-- Those not struck yet: what stays true when a short member is struck, and that they are the survivors once nobody is short.
-- Assumes nothing.
use mathlib.Core.Path.{◌≡◌, refl, sym, ap, ◌∙◌, subst}
use mathlib.Core.Logic.{◌⊎◌, inl, inr, ⊎_elim}
use mathlib.Core.Bool.{true, false, ◌&&◌, not}
use mathlib.Core.List.{List}
use Prim.Native.Nat.{ℕ, suc, ◌+◌, ◌≤◌, ◌<◌, ◌^◌}
use native.Mathlib.Nat.{le_trans, le_of_lt, lt_trans, lt_of_lt_of_le, lt_of_le_of_lt, not-le_of_lt}
use native.Mathlib.Omega.{arith}
use lib.Dec.{eqb}
use lib.ListN.{length, get_or}
use lib.Pow.{pow_mono}
use borrow.Author.Tests.{eqb-true, ne_eqb}
use Rattle.lists.proofs.Bools.{and_intro, and_left, test, clash}
use Rattle.lists.proofs.Tabulate.{get_or-tab}
use Rattle.members.specs.Members.{size, has, striking, first_of}
use Rattle.members.specs.Internal.Lowest.{First}
use Rattle.members.proofs.Masks.{has-zero, has_inside}
use Rattle.members.proofs.Words.{size_32, first_of-all, first_of-lt, has-striking, striking_less}
use Rattle.pruning.specs.Pruning.{votes, survivors, Closed}
use Rattle.pruning.specs.Counts.{counted, AfterStrike}
use Rattle.pruning.specs.Internal.Steps.{Short, NobodyShort}
use Rattle.pruning.specs.declared.Votes.{Votes}
use Rattle.pruning.specs.declared.Remaining.{Remaining}
use Rattle.pruning.proofs.Largest.{Above, above_strike, above_all, struck_survivors}
use Rattle.pruning.proofs.Steps.{vote_there, counted_long}

-- those left that are looked at already have enough votes
pub record Looking (left : Remaining) (rest : ℕ) : Type 0 where
  pub most : rest ≤ left.set
  pub part : (k : ℕ) → has rest k ≡ true → has left.set k ≡ true
  pub enough : (k : ℕ) → has left.set k ≡ true → (has rest k ≡ true) ⊎ (left.votes.t + 1 ≤ get_or left.counts.now k 0)

-- what is left of a station's votes: a set of its members, and nobody who is struck is in a closed set
pub record Going (votes : Votes) (left : Remaining) : Type 0 where
  pub same_votes : left.votes ≡ votes
  pub below : left.set < 2 ^ size left.votes.t
  pub above : Above left.votes.t left.votes.rows.now left.set

pub everybody_below : (votes : Votes) (n set : ℕ) → n ≡ size votes.t → set ≡ first_of n → set < 2 ^ size votes.t
everybody_below votes n set sized all =
    subst (λ (x : ℕ). x < 2 ^ size votes.t) (sym (all ∙ ap first_of sized)) (first_of-lt (size votes.t) (size_32 votes.t votes.table.few))

pub going_first : (votes : Votes) (left : Remaining) → (left.votes ≡ votes) × (left.set ≡ first_of (size votes.t)) → Going votes left
going_first votes left (same, all) =
    let everybody : left.set ≡ first_of (size left.votes.t) = all ∙ ap (λ (v : Votes). first_of (size v.t)) (sym same) in
    let room : size left.votes.t ≤ 32 = size_32 left.votes.t left.votes.table.few in
    record {
      same_votes = same;
      below = everybody_below left.votes (size left.votes.t) left.set refl everybody;
      above =
          subst (Above left.votes.t left.votes.rows.now) (sym (everybody ∙ first_of-all (size left.votes.t) room))
          (above_all left.votes.t left.votes.rows.now);
    }

module _ (left : Remaining) (below : left.set < 2 ^ size left.votes.t) where
  abbrev t : ℕ
  t = left.votes.t

  abbrev rows : List ℕ
  rows = left.votes.rows.now

  room : size t ≤ 32
  room = size_32 t left.votes.table.few

  narrow : left.set < 2 ^ 32
  narrow = lt_of_lt_of_le below (pow_mono room)

  counts_long : left.set < 2 ^ length left.counts.now
  counts_long = subst (λ (n : ℕ). left.set < 2 ^ n) (sym (counted_long t rows left.set left.counts.now left.exact)) below

  -- ---- the next short member

  pub looking_none : (rest : ℕ) → Looking left rest → rest ≡ 0 → NobodyShort (t + 1) left.set left.counts.now
  looking_none rest l e =
      record {
        enough = λ k y. ⊎_elim (λ r. absurd (clash r (ap (λ (x : ℕ). has x k) e ∙ has-zero k))) (λ e. e) (l.enough k y);
      }

  module _ (rest i : ℕ) (looking : Looking left rest) (low : First rest i) where
    small : rest < 2 ^ 32
    small = lt_of_le_of_lt looking.most narrow

    pub looking_inside : i < length left.counts.now
    looking_inside = has_inside (length left.counts.now) rest i (lt_of_le_of_lt looking.most counts_long) low.member

    pub looking_less : (next : ℕ) → next ≡ striking rest i → next < rest
    looking_less next e = subst (λ (x : ℕ). x < rest) (sym e) (striking_less rest i small low.inside low.member)

    pub looking_next : (next : ℕ) → next ≡ striking rest i → t + 1 ≤ get_or left.counts.now i 0 → Looking left next
    looking_next next e h =
        record {
          most = le_trans (le_of_lt (looking_less next e)) looking.most;
          part = λ k y. looking.part k (and_left (has rest k) (not (eqb k i)) (sym (at k (has_inside 32 next k (lt_trans (looking_less next e) small) y)) ∙ y));
          enough = λ k y. ⊎_elim (λ r. other k r (test (eqb k i))) inr (looking.enough k y);
        }
      where
        at : (k : ℕ) → k < 32 → has next k ≡ has rest k && not (eqb k i)
        at k l = ap (λ (x : ℕ). has x k) e ∙ has-striking rest i k l

        other : (k : ℕ) → has rest k ≡ true → (eqb k i ≡ true) ⊎ (eqb k i ≡ false) → (has next k ≡ true) ⊎ (t + 1 ≤ get_or left.counts.now k 0)
        other k r (inl y) = inr (subst (λ (x : ℕ). t + 1 ≤ get_or left.counts.now x 0) (sym (eqb-true k i y)) h)
        other k r (inr n) = inl (at k (has_inside 32 rest k small r) ∙ and_intro r (ap not n))

  -- ---- all strikes

  count_of : (k : ℕ) → k < size t → get_or left.counts.now k 0 ≡ votes t rows left.set k
  unfolding counted
  count_of k h = ap (λ (l : List ℕ). get_or l k 0) left.exact ∙ get_or-tab (size t) (votes t rows left.set) k 0 h

  -- nobody is short: the set is closed
  closed : NobodyShort (t + 1) left.set left.counts.now → Closed t rows left.set
  closed nobody = record { accepted = λ k l y. omega (arith, count_of k l, nobody.enough k y) }

  -- one who is struck: those left are a smaller set of the n members
  module _ (i next : ℕ) (member : has left.set i ≡ true) (without : next ≡ striking left.set i) where
    struck_less : next < left.set
    struck_less =
        let inside : i < size t = has_inside (size t) left.set i below member in
        subst (λ (x : ℕ). x < left.set) (sym without) (striking_less left.set i narrow (lt_of_lt_of_le inside room) member)

    pub struck_below : next < 2 ^ size t
    struck_below = lt_trans struck_less below

  module _ (i : ℕ) (first : Short (t + 1) left.set left.counts.now i) where
    inside : i < size t
    inside = has_inside (size t) left.set i below first.member

    module _ (next : Remaining) (strike : AfterStrike t rows left.set i next.set next.counts.now) where
      less : next.set < left.set
      less = struck_less i next.set first.member strike.without

      keeps : (k : ℕ) → k < size t → has left.set k ≡ true → suc t ≤ votes t rows left.set k → has next.set k ≡ true
      keeps k l y v =
          ap (λ (x : ℕ). has x k) strike.without ∙ has-striking left.set i k (lt_of_lt_of_le l room)
          ∙ and_intro y (ap not (ne_eqb k i (λ e. not-le_of_lt few (subst (λ (x : ℕ). suc t ≤ votes t rows left.set x) e v))))
        where
          few : votes t rows left.set i < suc t
          few = omega (arith, count_of i inside, first.short)

module _ (station : Votes) (left : Remaining) (going : Going station left) where
  pub going_room : left.set < 2 ^ size left.votes.t
  going_room = going.below

  pub going_done : NobodyShort (left.votes.t + 1) left.set left.counts.now → left.set ≡ survivors station.t station.rows.now
  going_done nobody =
      struck_survivors left.votes.t left.votes.rows.now left.set going.below going.above (closed left going.below nobody)
      ∙ ap (λ (v : Votes). survivors v.t v.rows.now) going.same_votes

  module _ (i : ℕ) (first : Short (left.votes.t + 1) left.set left.counts.now i) where
    pub going_inside : i < size left.votes.t
    going_inside = inside left going.below i first

    module _ (next : Remaining) (strike : AfterStrike left.votes.t left.votes.rows.now left.set i next.set next.counts.now) where
      pub going_less : next.set < left.set
      going_less = less left going.below i first next strike

      pub going_on : next.votes ≡ left.votes → Going station next
      going_on same =
          record {
            same_votes = same ∙ going.same_votes;
            below = subst (λ (v : Votes). next.set < 2 ^ size v.t) (sym same) (struck_below left going.below i next.set first.member strike.without);
            above =
                subst (λ (v : Votes). Above v.t v.rows.now next.set) (sym same)
                (above_strike left.votes.t left.votes.rows.now left.set next.set going.above (keeps left going.below i first next strike));
          }

-- for the loops as the code makes them: the search for a short member, one strike, and the strikes one after the other
pub ruleset looking = (looking_inside, looking_next, looking_none)

pub ruleset one_struck = (vote_there, counted_long)

pub ruleset going = (going_first, going_room, going_inside, going_less, going_on, going_done)
