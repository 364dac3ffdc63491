-- The votes of shares as pruning counts them: how many accept a member, and that every survivor is usable.
-- Assumes nothing.
use mathlib.Core.Path.{◌≡◌, ap}
use mathlib.Core.Bool.{Bool, true, ◌&&◌}
use mathlib.Core.List.{List}
use Prim.Native.Nat.{ℕ, ◌<◌}
use native.Mathlib.Omega.{arith}
use lib.ListN.{get_or}
use Rattle.lists.specs.Tabulate.{count}
use Rattle.lists.proofs.Bools.{and_left}
use Rattle.lists.proofs.Count.{count_ext, count_some}
use Rattle.members.specs.Members.{size, has}
use Rattle.voting.specs.Votes.{accepts, vote_rows}
use Rattle.voting.proofs.Meaning.{accepts-usable, has_row}
use Rattle.pruning.specs.Pruning.{Closed, votes}

module _ (t d day able : ℕ) (words : List ℕ) where
  pub votes_are : (i : ℕ) → i < size t → (set : ℕ)
      → votes t (vote_rows t d day able words) set i ≡ count (size t) (λ j. accepts t d day able words j i && has set j)
  unfolding votes
  votes_are i h set =
      count_ext (size t) (λ j. has (get_or (vote_rows t d day able words) i 0) j && has set j) (λ j. accepts t d day able words j i && has set j)
      (λ j l. ap (λ (b : Bool). b && has set j) (has_row t d day able words i h j l))

  -- every survivor is usable
  pub survivor_usable : (set : ℕ) → Closed t (vote_rows t d day able words) set → (i : ℕ) → i < size t → has set i ≡ true → has able i ≡ true
  survivor_usable set closed i h e =
      let r : (j : ℕ) × (j < size t) × (accepts t d day able words j i && has set j ≡ true) =
      count_some (size t) (λ j. accepts t d day able words j i && has set j) (omega (arith, closed.accepted i h e, votes_are i h set)) in
      let j : ℕ = r.0 in
      and_left (has able i) (has able j)
      (accepts-usable t d day able words j i (and_left (accepts t d day able words j i) (has set j) r.2))
