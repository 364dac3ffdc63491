-- What pruning answers.
-- Assumes nothing.
use mathlib.Core.Path.{◌≡◌}
use mathlib.Core.Bool.{true, false}
use mathlib.Core.List.{List}
use Prim.Native.Nat.{ℕ}
use lib.ListN.{length}
use borrow.Author.Tests.{eq-eqb, ne_eqb}
use Rattle.lists.specs.Tabulate.{each}
use Rattle.members.specs.Members.{is_threshold, size, is_set}
use Rattle.pruning.specs.Pruning.{survivors, prune}

module _ (t : ℕ) (rows : List ℕ) where
  -- a t out of range: 1
  pub refuses_1 : is_threshold t ≡ false → prune t rows ≡ record { number = 1; survivors = 0 }
  unfolding prune
  refuses_1 e = rw e

  module _ (threshold : is_threshold t ≡ true) where
    -- rows of another number than the members': 10
    pub refuses_10 : (length rows ≡ size t → ⊥) → prune t rows ≡ record { number = 10; survivors = 0 }
    unfolding prune
    refuses_10 h = rw (threshold, ne_eqb (length rows) (size t) h)

    module _ (n_rows : length rows ≡ size t) where
      -- a row that is no set of members: 12
      pub refuses_12 : each (is_set (size t)) rows ≡ false → prune t rows ≡ record { number = 12; survivors = 0 }
      unfolding prune
      refuses_12 h = rw (threshold, eq-eqb (length rows) (size t) n_rows, h)

  -- the survivors, where an input passes all checks
  pub accepts : is_threshold t ≡ true → length rows ≡ size t → each (is_set (size t)) rows ≡ true
      → prune t rows ≡ record { number = 0; survivors = survivors t rows }
  unfolding prune
  accepts threshold long sets = rw (threshold, eq-eqb (length rows) (size t) long, sets)
