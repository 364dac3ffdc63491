-- The inverse by squaring, as the code works it out.
-- Assumes nothing.
use Rattle.std.proofs.Common.{◌≡◌, ℕ, suc, ◌+◌, ◌-◌, ◌*◌, ◌/◌, ◌%◌, ◌^◌, ◌≤◌, ◌<◌, sym, arith}
use native.Mathlib.Nat.{one-mul, mul-one, mul_assoc}
use lib.Dec.{lit<}
use Rattle.field.specs.Field.{prime, product, power, inverse}
use Rattle.field.proofs.Congruence.{◌≈◌, same_refl, same_sym, same_trans, same_eq, eq_same, reduced, times, ◌⊗◌}
use Rattle.field.proofs.Fermat.{inverse-word}
use Rattle.field.proofs.Operations.{product_same, product-word}

-- after i turns, the result times the power that is still to come is the inverse
pub record Turn (a result square k i : ℕ) : Type 0 where
  pub word : result < 65521
  pub same : result * power (16 - i) square k ≈ inverse a

pub first_turn : (a : ℕ) → Turn a 1 a 65519 0
unfolding inverse
first_turn a = record { word = lit< tt; same = same_eq (one-mul (power 16 a 65519)) }

again : (a result square k left : ℕ) → result * power (suc left) square k ≈ inverse a
    → product result (square ^ (k % 2)) * power left (product square square) (k / 2) ≈ inverse a
unfolding power product
again a result square k left h =
    let x : ℕ = square ^ (k % 2) in
    let rest : ℕ = power left (square * square % prime) (k / 2) in
    same_trans (product_same result x ⊗ same_refl)
    (same_trans (same_eq (mul_assoc result x rest)) (same_trans (times result (same_sym (reduced (x * rest)))) h))

pub next_turn : (a result square k i n d x s : ℕ) → n ≡ i + 1 → i < 16 → d ≡ square ^ (k % 2) → x ≡ product result d → s ≡ product square square
    → Turn a result square k i → Turn a x s (k / 2) n
next_turn a result square k i n d x s en h ed ex es t =
    let e : 16 - i ≡ suc (16 - n) = omega arith in
    rw (es, ex, ed)
    (record {
      word = product-word result (square ^ (k % 2));
      same = again a result square k (16 - n) (rw e at t.same);
    })

pub last_turn : (a result square k i : ℕ) → 16 ≤ i → Turn a result square k i → result ≡ inverse a
unfolding power
last_turn a result square k i h t =
    let e : 16 - i ≡ 0 = omega arith in
    eq_same t.word (inverse-word a) (same_trans (same_eq (sym (mul-one result))) (rw e at t.same))

-- for the code
pub ruleset turns = (first_turn, next_turn, last_turn)
