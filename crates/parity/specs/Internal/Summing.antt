-- The sums of the look as they are made: for each word, the low and the high halves of the products are summed apart.
-- Assumes nothing.
use Rattle.std.specs.Prelude.{ℕ, ◌+◌, ◌*◌, ◌/◌, ◌%◌, ◌≤◌, ◌<◌, ◌≡◌, List, get_or}
use Rattle.lists.specs.Tabulate.{sum_to}
use Rattle.field.specs.Field.{prime}

-- each sum is of at most i halves
pub record Fits (i : ℕ) (low high : List ℕ) : Type 0 where
  pub low_fits : (k : ℕ) → get_or low k 0 ≤ 65535 * i
  pub high_fits : (k : ℕ) → get_or high k 0 ≤ 65535 * i

-- nothing is summed
pub record Cleared (low high : List ℕ) : Type 0 where
  pub low_none : (k : ℕ) → get_or low k 0 ≡ 0
  pub high_none : (k : ℕ) → get_or high k 0 ≡ 0

-- the halves of the products of the weight and the first n words are added to the sums that were, and the others are as they were
pub record Added (weight : ℕ) (words low₀ high₀ : List ℕ) (n : ℕ) (low high : List ℕ) : Type 0 where
  pub small : (k : ℕ) → k < n → weight * get_or words k 0 ≤ 4294836225
  pub low_added : (k : ℕ) → k < n → get_or low k 0 ≡ get_or low₀ k 0 + weight * get_or words k 0 % 65536
  pub high_added : (k : ℕ) → k < n → get_or high k 0 ≡ get_or high₀ k 0 + weight * get_or words k 0 / 65536
  pub low_kept : (k : ℕ) → n ≤ k → get_or low k 0 ≡ get_or low₀ k 0
  pub high_kept : (k : ℕ) → n ≤ k → get_or high k 0 ≡ get_or high₀ k 0

-- for each word k, the products of the row's first i entries and their members' words y are summed
pub record Summed (d : ℕ) (y : ℕ → ℕ → ℕ) (row : List ℕ) (i : ℕ) (low high : List ℕ) : Type 0 where
  pub fits : Fits i low high
  pub so_far : (k : ℕ) → k < d → get_or low k 0 + 65536 * get_or high k 0 ≡ sum_to i (λ j. get_or row j 0 * y j k)

-- the sum for word k, reduced
unfoldable pub sum_at : List ℕ → List ℕ → ℕ → ℕ
sum_at low high k = (get_or low k 0 + 65536 * get_or high k 0) % prime
