-- The members' own points.
-- Assumes nothing.
use mathlib.Core.Path.{◌≡◌, ap, ◌∙◌}
use mathlib.Core.List.{List}
use Prim.Native.Nat.{ℕ, suc, ◌<◌}
use lib.ListN.{length, get_or}
use Rattle.lists.specs.Tabulate.{tab}
use Rattle.lists.proofs.Tabulate.{length-tab, get_or-tab}
use Rattle.members.specs.Members.{size, own_points}

pub length_own : (t : ℕ) → length (own_points t) ≡ size t
unfolding own_points
length_own t = length-tab (size t) (λ i. suc i)

pub own_point : (t i : ℕ) → i < size t → get_or (own_points t) i 0 ≡ suc i
unfolding own_points
own_point t i h = get_or-tab (size t) (λ j. suc j) i 0 h

-- as the code writes them
pub own_written : (t n : ℕ) (points : List ℕ) → n ≡ size t → points ≡ tab n (λ i. suc i) → points ≡ own_points t
unfolding own_points
own_written t n points e w = w ∙ ap (λ (m : ℕ). tab m (λ i. suc i)) e
