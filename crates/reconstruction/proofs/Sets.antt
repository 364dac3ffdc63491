-- The members of two sets, as the code intersects masks.
-- Assumes nothing.
use mathlib.Core.Path.{◌≡◌, sym, ap, ◌∙◌}
use mathlib.Core.Bool.{Bool, ◌&&◌}
use Prim.Native.Nat.{ℕ, suc, ◌^◌, ◌≤◌, ◌<◌}
use native.Mathlib.Nat.{lt_of_lt_of_le}
use native.Mathlib.Decide.{dec_le}
use native.Mathlib.Omega.{arith}
use lib.Bits.{bit_and, and_lt}
use lib.Pow.{pow_mono}
use Rattle.members.specs.Members.{has, set_of}
use Rattle.members.proofs.Masks.{has-set_of, set_of-lt, same_members, has_above, has-and}

pub both_and : (a b : ℕ) → a < 2 ^ 32 → b < 2 ^ 32 → bit_and a b ≡ set_of 32 (λ i. has a i && has b i)
both_and a b ha hb =
    same_members 32 (bit_and a b) (set_of 32 (λ i. has a i && has b i)) (and_lt 32 a b ha hb) (set_of-lt 32 (λ i. has a i && has b i))
    (λ i l. has-and i a b ∙ sym (has-set_of 32 (λ j. has a j && has b j) i l))

-- of n members, those of a that pass a test
pub both_of : (n a b : ℕ) (p : ℕ → Bool) → n ≤ 32 → a < 2 ^ n → b ≡ set_of n p → set_of 32 (λ i. has a i && has b i) ≡ set_of n (λ i. has a i && p i)
both_of n a b p h below e =
    same_members 32 (set_of 32 (λ i. has a i && has b i)) (set_of n (λ i. has a i && p i)) (set_of-lt 32 (λ i. has a i && has b i))
    (lt_of_lt_of_le (set_of-lt n (λ i. has a i && p i)) (pow_mono {j = 32} h))
    (λ i l. has-set_of 32 (λ j. has a j && has b j) i l ∙ at i)
  where
    at : (i : ℕ) → has a i && has b i ≡ has (set_of n (λ j. has a j && p j)) i
    at i =
        elim (dec_le (suc i) n) [
          | yes q ↦
              ap (λ (b : Bool). has a i && b) (ap (λ (m : ℕ). has m i) e ∙ has-set_of n p i q) ∙ sym (has-set_of n (λ j. has a j && p j) i q)
          | no q ↦
              let k : n ≤ i = omega arith in
              ap (λ (c : Bool). c && has b i) (has_above n a i below k)
              ∙ sym (has_above n (set_of n (λ j. has a j && p j)) i (set_of-lt n (λ j. has a j && p j)) k)
        ]
