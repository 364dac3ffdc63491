-- The points' powers and eight steps at once, for the contracts of the functions that make them.
-- Assumes nothing.
use Rattle.std.specs.Prelude.{ℕ, zero, suc, ◌+◌, ◌*◌, ◌%◌, List, get_or}
use Rattle.lists.specs.Tabulate.{sum_to}
use Rattle.field.specs.Field.{prime, product}

-- x, x², x³, .. modulo p, the first as it is
unfoldable pub nth_power : ℕ → ℕ → ℕ
nth_power x zero = x
nth_power x (suc m) = product (nth_power x m) x

-- eight words before a value: the first, each of the others times its power, and the value times the last power
unfoldable pub eight_before : List ℕ → (ℕ → ℕ) → ℕ → ℕ
eight_before words power after = (get_or words 0 0 + sum_to 7 (λ m. power m * get_or words (m + 1) 0) + power 7 * after) % prime
