-- The points of some of the members: distinct, where all points are.
-- Assumes nothing.
use mathlib.Core.Path.{◌≡◌, sym, ap, ◌∙◌, subst}
use mathlib.Core.Bool.{Bool, true}
use mathlib.Core.List.{List, map, Sublistᴰ}
use Prim.Native.Nat.{ℕ, ◌<◌}
use lib.ListN.{length, get_or, length-map}
use Rattle.lists.specs.Tabulate.{tab, count}
use Rattle.lists.proofs.Every.{Every, every_both}
use Rattle.lists.proofs.Tabulate.{map-tab, tab-get_or}
use Rattle.lists.proofs.Choose.{every_mapped, sub-map}
use Rattle.members.proofs.Listed.{passing, passing_sub, passing_every, passing_below, length_passing}
use Rattle.polynomial.proofs.Roots.{Distinct, distinct_sub}

-- the points of the members ms
abbrev pub points_of : List ℕ → List ℕ → List ℕ
points_of xs ms = map (λ i. get_or xs i 0) ms

pub all_points : (xs : List ℕ) (n : ℕ) → length xs ≡ n → points_of xs (tab n (λ i. i)) ≡ xs
all_points xs n e = map-tab (λ i. get_or xs i 0) n (λ i. i) ∙ ap (λ (m : ℕ). tab m (λ i. get_or xs i 0)) (sym e) ∙ tab-get_or xs 0

pub distinct_points : (xs : List ℕ) (n : ℕ) {ms : List ℕ} → length xs ≡ n → Distinct xs → Sublistᴰ ms (tab n (λ i. i)) → Distinct (points_of xs ms)
distinct_points xs n {ms} e d s =
    distinct_sub (sub-map (λ i. get_or xs i 0) s) (subst Distinct (sym (all_points xs n e)) d)

-- the points of the members that pass a test
module _ (xs : List ℕ) (n : ℕ) (long : length xs ≡ n) (distinct : Distinct xs) (p : ℕ → Bool) where
  pub passing_points : Distinct (points_of xs (passing n p))
  passing_points = distinct_points xs n long distinct (passing_sub n p)

  pub count_points : length (points_of xs (passing n p)) ≡ count n p
  count_points = length-map (passing n p) (λ i. get_or xs i 0) ∙ length_passing n p

  pub at_points : {P : ℕ → Type 0} → ((i : ℕ) → i < n → p i ≡ true → P (get_or xs i 0)) → Every P (points_of xs (passing n p))
  at_points h = every_mapped (λ i. get_or xs i 0) (every_both h (passing_below n p) (passing_every n p))
