-- The value at 0 of the polynomial through the words of all n members.
-- Assumes nothing.
use mathlib.Core.Path.{◌≡◌, refl, sym, ap, ◌∙◌}
use mathlib.Core.Bool.{Bool, true, cond, ◌&&◌}
use mathlib.Core.List.{List}
use Prim.Native.Nat.{ℕ, suc, ◌+◌, ◌*◌, ◌%◌, ◌^◌, ◌≤◌, ◌<◌}
use native.Mathlib.Nat.{le_of_eq, mul_assoc}
use native.Mathlib.Numerals.{add-one}
use native.Mathlib.Omega.{arith}
use lib.Dec.{eqb}
use lib.ListN.{length}
use borrow.Author.Tests.{eqb-true, lt-ltb, le-ltb}
use Rattle.lists.specs.Tabulate.{all, sum_to}
use Rattle.lists.proofs.Bools.{and_left, and_right}
use Rattle.lists.proofs.Sums.{sum_to-first, sum_to_last}
use Rattle.lists.proofs.Tabulate.{all_elim}
use Rattle.field.specs.Field.{prime, product, power, inverse}
use Rattle.field.proofs.Congruence.{◌≈◌, same_refl, same_sym, same_trans, same_eq, mult, times, ◌⊕◌, ◌⊗◌, lc}
use Rattle.field.proofs.Operations.{product_same}
use Rattle.polynomial.specs.Polynomial.{eval, value}
use Rattle.members.specs.Members.{size}
use Rattle.parity.specs.Parity.{factorial, sign, weight, Lies}
use Rattle.parity.specs.Internal.Looking.{zero_scale, zero_weight, constant}
use Rattle.parity.proofs.Sums.{same_sum, sum_scaled}
use Rattle.parity.proofs.Table.{station}
use Rattle.parity.proofs.Balance.{kills_all, lies_at}

-- The weights make 0 with the powers 0 to t of the points 0 to n − 1 too, and the scale makes the first of them −1, by computing.
from_0 : ℕ → Bool
from_0 t = all (suc t) (λ m. eqb (sum_to (size t) (λ i. weight (size t) i * i ^ m) % prime) 0) && eqb (product (zero_scale (size t)) (weight (size t) 0)) 65520

all_from_0 : all 15 (λ k. from_0 (suc k)) ≡ true
unfolding from_0 all size sum_to zero_scale weight factorial sign product inverse power
all_from_0 = refl

-- s times what is left of a sum without its first term
rest : (s w e z : ℕ) → s * w ≈ 65520 → w * e + z ≈ 0 → s * z ≈ e
rest s w e z hs h = lc (times s h ⊕ times e (same_sym hs)) (mult e 0 (omega arith))

module _ (t : ℕ) (low : 1 ≤ t) (high : t ≤ 15) where
  moment_0 : (m : ℕ) → m < suc t → sum_to (size t) (λ i. weight (size t) i * i ^ m) ≈ 0
  unfolding from_0
  moment_0 m h =
      record {
        same =
            eqb-true _ 0
            (all_elim (suc t) (λ m. eqb (sum_to (size t) (λ i. weight (size t) i * i ^ m) % prime) 0)
            (and_left _ (eqb (product (zero_scale (size t)) (weight (size t) 0)) 65520) (station from_0 all_from_0 t low high)) m h);
      }

  scaled : zero_scale (size t) * weight (size t) 0 ≈ 65520
  unfolding from_0
  scaled =
      same_trans (same_sym (product_same (zero_scale (size t)) (weight (size t) 0)))
      (same_eq (eqb-true _ 65520
      (and_right (all (suc t) (λ m. eqb (sum_to (size t) (λ i. weight (size t) i * i ^ m) % prime) 0)) _ (station from_0 all_from_0 t low high))))

  -- the values at the points 1 to n − 1, by the weights of the points 0 to n − 1
  others : List ℕ → ℕ
  others f = sum_to (2 * t) (λ i. weight (size t) (suc i) * eval f (suc i))

  members : size t ≡ suc (2 * t)
  unfolding size
  members = add-one (2 * t)

  with_0 : (f : List ℕ) → length f ≤ suc t → weight (size t) 0 * eval f 0 + others f ≈ 0
  unfolding others
  with_0 f d =
      same_trans (same_eq (sym (sum_to-first (size t) (2 * t) (λ i. weight (size t) i * eval f i) members)))
      (kills_all (size t) (weight (size t)) (λ i. i) f (λ m h. moment_0 m (omega arith)))

  -- the weights for the value at 0: those of the next members scaled, and none for the last
  next_scaled : (i e : ℕ) → i < 2 * t → zero_weight (size t) i * e ≈ zero_scale (size t) * (weight (size t) (suc i) * e)
  unfolding zero_weight
  next_scaled i e h =
      same_trans
      (same_trans
      (same_eq
      (ap (λ (b : Bool). cond b (product (zero_scale (size t)) (weight (size t) (suc i))) 0 * e) (lt-ltb (suc i) (size t) (omega (arith, members)))))
      (product_same (zero_scale (size t)) (weight (size t) (suc i)) ⊗ same_refl))
      (same_eq (mul_assoc (zero_scale (size t)) (weight (size t) (suc i)) e))

  none_last : zero_weight (size t) (2 * t) ≡ 0
  unfolding zero_weight
  none_last =
      ap (λ (b : Bool). cond b (product (zero_scale (size t)) (weight (size t) (suc (2 * t)))) 0) (le-ltb (suc (2 * t)) (size t) (le_of_eq members))

  -- so the sum of a polynomial's values by these weights is its value at 0
  at_0 : (f : List ℕ) → length f ≤ suc t → sum_to (size t) (λ i. zero_weight (size t) i * eval f (suc i)) ≈ eval f 0
  unfolding others
  at_0 f d =
      let term : ℕ → ℕ = λ i. zero_weight (size t) i * eval f (suc i) in
      same_trans
      (same_eq (ap (λ (n : ℕ). sum_to n term) members ∙ sum_to_last (2 * t) term ∙ ap (λ (w : ℕ). sum_to (2 * t) term + w * eval f (suc (2 * t))) none_last))
      (same_trans
      (sum_scaled (2 * t) (zero_scale (size t)) (λ i. weight (size t) (suc i) * eval f (suc i)) term (λ i l. next_scaled i (eval f (suc i)) l) ⊕ same_refl)
      (same_trans (same_eq (last (zero_scale (size t) * others f) (eval f (suc (2 * t)))))
      (rest (zero_scale (size t)) (weight (size t) 0) (eval f 0) (others f) scaled (with_0 f d))))
    where
      last : (a e : ℕ) → a + 0 * e ≡ a
      last a e = omega arith

pub constant_is : (t : ℕ) → 1 ≤ t → t ≤ 15 → (y : ℕ → ℕ) → (l : Lies t y) → constant (size t) y ≡ value l.f 0
unfolding constant value
constant_is t low high y l =
    (same_trans
    (same_sum (size t) (λ i. zero_weight (size t) i * y i) (λ i. zero_weight (size t) i * eval l.f (suc i))
    (λ i k. times (zero_weight (size t) i) (lies_at l i k)))
    (at_0 t low high l.f l.degree)).same
