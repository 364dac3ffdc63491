-- The points of a roster are distinct, and the members' own points are a roster.
-- Assumes nothing.
use mathlib.Core.Path.{◌≡◌, sym, ap, ◌∙◌, subst}
use mathlib.Core.List.{List}
use Prim.Native.Nat.{ℕ, suc, ◌≤◌}
use native.Mathlib.Nat.{suc_inj}
use native.Mathlib.Omega.{arith}
use lib.ListN.{length, get_or, take}
use lib.Seq.{length-take-le}
use Rattle.lists.specs.Tabulate.{tab}
use Rattle.lists.proofs.Tabulate.{tab-get_or}
use Rattle.field.proofs.Congruence.{eq_same}
use Rattle.polynomial.proofs.Roots.{Distinct, distinct_tab}
use Rattle.members.specs.Members.{size, own_points}
use Rattle.members.proofs.Points.{length_own, own_point}
use Rattle.members.proofs.Words.{size_31}
use Rattle.decoding.specs.Internal.Roster.{Roster}

pub distinct_roster : {t : ℕ} {xs : List ℕ} → Roster t xs → Distinct xs
distinct_roster {t} {xs} R =
    subst Distinct (ap (λ (n : ℕ). tab n (λ i. get_or xs i 0)) (sym R.long) ∙ tab-get_or xs 0)
    (distinct_tab (size t) (λ i. get_or xs i 0) (λ i j k l e. R.apart i j k l (eq_same (R.words i k) (R.words j l) e)))

pub own_roster : (t : ℕ) → t ≤ 15 → Roster t (own_points t)
own_roster t h =
    record {
      long = length_own t;
      words = λ i k. omega (arith, own_point t i k, size_31 t h);
      apart = λ i j k l e. suc_inj (sym (own_point t i k) ∙ e ∙ own_point t j l);
    }

pub own_distinct : (t : ℕ) → t ≤ 15 → Distinct (own_points t)
own_distinct t h = distinct_roster (own_roster t h)

-- they are made at the front of a buffer of 31 words
pub own_made : (t n : ℕ) (points own : List ℕ) → t ≤ 15 → n ≡ size t → length points ≡ 31 → own ≡ tab (length (take n points)) (λ i. suc i) → own ≡ own_points t
unfolding own_points
own_made t n points own small en room made =
    made ∙ ap (λ (k : ℕ). tab k (λ i. suc i)) (length-take-le n points (omega (arith, size_31 t small)) ∙ en)
