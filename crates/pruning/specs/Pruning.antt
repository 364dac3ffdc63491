-- Pruning (document 01, 'Votes and pruning'). Row i of the votes is the set of those who accept member i.
-- Assumes nothing.
use Rattle.std.specs.Prelude.{ℕ, zero, suc, ◌≤◌, ◌<◌, ◌^◌, ◌≡◌, true, ◌&&◌, List, [], ◌∷◌, leb, eqb, length, get_or}
use Rattle.lists.specs.Tabulate.{count, each}
use Rattle.lists.specs.Checks.{◌unless◌, checked}
use Rattle.members.specs.Members.{is_threshold, size, has, set_of, is_set}

-- how many members of the set accept member i
unfoldable pub votes : ℕ → List ℕ → ℕ → ℕ → ℕ
votes t rows set i = count (size t) (λ j. has (get_or rows i 0) j && has set j)

-- one round of striking: the members of the set that at least t + 1 members of it accept
unfoldable pub round : ℕ → List ℕ → ℕ → ℕ
round t rows set = set_of (size t) (λ i. has set i && leb (suc t) (votes t rows set i))

unfoldable pub rounds : ℕ → ℕ → List ℕ → ℕ → ℕ
rounds zero t rows set = set
rounds (suc k) t rows set = rounds k t rows (round t rows set)

-- the survivors: what n rounds leave of all n members
unfoldable pub survivors : ℕ → List ℕ → ℕ
survivors t rows = rounds (size t) t rows (set_of (size t) (λ i. true))

-- every member of the set is accepted by at least t + 1 members of it
pub record Closed (t : ℕ) (rows : List ℕ) (set : ℕ) : Type 0 where
  pub accepted : (i : ℕ) → i < size t → has set i ≡ true → suc t ≤ votes t rows set i

-- the largest such set, as document 01 defines the survivors: it is one, and every other is contained in it
pub record Largest (t : ℕ) (rows : List ℕ) (set : ℕ) : Type 0 where
  pub below : set < 2 ^ size t
  pub closed : Closed t rows set
  pub contains : (other : ℕ) → other < 2 ^ size t → Closed t rows other → (i : ℕ) → i < size t → has other i ≡ true → has set i ≡ true

-- what pruning answers: 0 or the refusal's number, and the survivors
pub record Pruned : Type 0 where
  pub number : ℕ
  pub survivors : ℕ

unfoldable pub prune : ℕ → List ℕ → Pruned
prune t rows =
    let answer : Pruned = record { number = 0; survivors = survivors t rows } in
    checked (λ k. record { number = k; survivors = 0 })
    (1 unless is_threshold t ∷ 10 unless eqb (length rows) (size t) ∷ 12 unless each (is_set (size t)) rows ∷ []) answer
