-- The table of weights: its rule, computed once over all 255 places, and that no other word meets the rule.
-- Assumes nothing.
use mathlib.Core.Path.{◌≡◌, refl}
use mathlib.Core.Bool.{Bool, true, ◌&&◌}
use mathlib.Core.Logic.{inl, inr}
use Prim.Native.Nat.{ℕ, zero, suc, ◌-◌, ◌*◌, ◌%◌, ◌≤◌, ◌<◌}
use native.Mathlib.Nat.{not-suc-le-zero, mul-le-mul, mul_comm, mul-zero, zero-mul}
use native.Mathlib.Omega.{arith}
use lib.Dec.{eqb, ltb}
use lib.ListN.{get_or}
use borrow.Author.Tests.{eqb-true, ltb-true}
use Rattle.lists.specs.Tabulate.{tab, all, concat}
use Rattle.lists.proofs.Bools.{test, and_left, and_right}
use Rattle.lists.proofs.Tabulate.{all_elim}
use Rattle.field.specs.Field.{prime, product, power, inverse}
use Rattle.field.proofs.Congruence.{◌≈◌, same_refl, same_sym, same_trans, same_eq, eq_same, times, ◌⊗◌}
use Rattle.field.proofs.Fermat.{cancel}
use Rattle.field.proofs.Operations.{product_same}
use Rattle.members.specs.Members.{size}
use Rattle.parity.specs.Parity.{factorial, sign, IsWeight, weight, weights, place}

-- what holds at each station: t from 1 to 15 is one more than a number below 15
pub station : (p : ℕ → Bool) → all 15 (λ k. p (suc k)) ≡ true → (t : ℕ) → 1 ≤ t → t ≤ 15 → p t ≡ true
station p h zero low high = absurd (not-suc-le-zero low)
station p h (suc k) low high = all_elim 15 (λ k. p (suc k)) h k high

-- what holds of each member of each station: one test for all 255 places
everywhere : (ℕ → ℕ → Bool) → Bool
everywhere p = all 15 (λ k. all (size (suc k)) (p (suc k)))

at : (p : ℕ → ℕ → Bool) → everywhere p ≡ true → (t i : ℕ) → 1 ≤ t → t ≤ 15 → i < size t → p t i ≡ true
unfolding everywhere
at p h t i low high inside = all_elim (size t) (p t) (station (λ t. all (size t) (p t)) h t low high) i inside

stands : ℕ → ℕ → Bool
stands t i = ltb (place t i) 255 && eqb (get_or weights (place t i) 0) (weight (size t) i)

all_stand : everywhere stands ≡ true
unfolding everywhere stands all size weights concat tab weight factorial sign product inverse power
all_stand = refl

follows : ℕ → ℕ → Bool
follows t i = ltb (weight (size t) i) prime && eqb (product (weight (size t) i) (factorial i * factorial (size t - suc i))) (sign (size t - suc i))

all_follow : everywhere follows ≡ true
unfolding everywhere follows all size weight factorial sign product inverse power
all_follow = refl

-- t times t, for its place
pub square : (t : ℕ) → 1 ≤ t → t ≤ 15 → (1 ≤ t * t) × (t * t ≤ 225)
square t low high = (mul-le-mul low low, mul-le-mul high high)

-- 1 and −1 are not 0
sign-not_0 : (k : ℕ) → sign k ≈ 0 → ⊥
unfolding sign
sign-not_0 k z = elim (test (eqb (k % 2) 0)) [ inl e ↦ omega (arith, rw e at z) | inr e ↦ omega (arith, rw e at z) ]

-- what meets the rule is not 0, nor are the factorials; so no other word meets it
module _ {n i w : ℕ} (r : IsWeight n i w) where
  rule_same : factorial i * factorial (n - suc i) * w ≈ sign (n - suc i)
  rule_same =
      same_trans (same_eq (mul_comm (factorial i * factorial (n - suc i)) w))
      (same_trans (same_sym (product_same w (factorial i * factorial (n - suc i)))) (same_eq r.rule))

  pub weight-not_0 : w ≈ 0 → ⊥
  weight-not_0 z = sign-not_0 (n - suc i) (same_trans (same_sym rule_same) (same_trans (times _ z) (same_eq (mul-zero _))))

  factorials_not_0 : factorial i * factorial (n - suc i) ≈ 0 → ⊥
  factorials_not_0 z = sign-not_0 (n - suc i) (same_trans (same_sym rule_same) (same_trans (z ⊗ same_refl) (same_eq (zero-mul w))))

one_word : {n i v w : ℕ} → IsWeight n i v → IsWeight n i w → v ≡ w
one_word {n} {i} q r =
    eq_same q.word r.word (cancel (factorial i * factorial (n - suc i)) (factorials_not_0 r) (same_trans (rule_same q) (same_sym (rule_same r))))

module _ (t i : ℕ) (low : 1 ≤ t) (high : t ≤ 15) (inside : i < size t) where
  pub place_inside : place t i < 255
  unfolding stands
  place_inside = ltb-true (place t i) 255 (and_left (ltb (place t i) 255) _ (at stands all_stand t i low high inside))

  pub at_place : get_or weights (place t i) 0 ≡ weight (size t) i
  unfolding stands
  at_place = eqb-true _ _ (and_right (ltb (place t i) 255) _ (at stands all_stand t i low high inside))

  pub is_weight : IsWeight (size t) i (weight (size t) i)
  unfolding follows
  is_weight =
      record {
        word = ltb-true _ prime (and_left (ltb (weight (size t) i) prime) _ (at follows all_follow t i low high inside));
        rule = eqb-true _ _ (and_right (ltb (weight (size t) i) prime) _ (at follows all_follow t i low high inside));
      }

pub only_weight : (t i w : ℕ) → 1 ≤ t → t ≤ 15 → i < size t → IsWeight (size t) i w → w ≡ weight (size t) i
only_weight t i w low high inside r = one_word r (is_weight t i low high inside)
