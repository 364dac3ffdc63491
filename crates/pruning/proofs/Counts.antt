-- What a strike takes off: votes from a set are the votes from it without one of its members, and that member's.
-- Assumes nothing.
use mathlib.Core.Path.{◌≡◌, sym, ap, ap₂, ◌∙◌}
use mathlib.Core.Bool.{Bool, true, ◌&&◌, not, and_assoc}
use mathlib.Core.List.{List}
use Prim.Native.Nat.{ℕ, ◌+◌, ◌≤◌, ◌<◌}
use native.Mathlib.Nat.{lt_of_lt_of_le}
use lib.Dec.{eqb}
use lib.ListN.{get_or}
use Rattle.lists.proofs.Bools.{and_yes}
use Rattle.lists.proofs.Count.{to_ℕ, count_ext, count_at}
use Rattle.members.specs.Members.{size, has, striking}
use Rattle.members.proofs.Words.{size_32, has-striking}
use Rattle.pruning.specs.Pruning.{votes}

module _ (t : ℕ) (rows : List ℕ) (set i : ℕ) (few : t ≤ 15) (inside : i < size t) (member : has set i ≡ true) (k : ℕ) where
  row : ℕ
  row = get_or rows k 0

  pub votes_apart : votes t rows set k ≡ to_ℕ (has (get_or rows k 0) i) + votes t rows (striking set i) k
  unfolding votes row
  votes_apart =
      count_at (size t) (λ j. has row j && has set j) i inside
      ∙ ap₂ (λ (a b : ℕ). a + b) (ap to_ℕ (and_yes (has row i) (has set i) member))
      (count_ext (size t) (λ j. has row j && has set j && not (eqb j i)) (λ j. has row j && has (striking set i) j)
      (λ j l. and_assoc (has row j) (has set j) (not (eqb j i))
      ∙ ap (λ (b : Bool). has row j && b) (sym (has-striking set i j (lt_of_lt_of_le l (size_32 t few))))))
