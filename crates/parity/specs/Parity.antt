-- The parity weights of n members, and the sums by which the words of all n are looked at (document 02, W-206). Members are counted from 0: document 02's
-- w(n, i) is weight n (i − 1).
-- Assumes nothing.
use Rattle.std.specs.Prelude.{ℕ, zero, suc, ◌+◌, ◌-◌, ◌*◌, ◌%◌, ◌^◌, ◌≤◌, ◌<◌, ◌≡◌, Bool, cond, List, eqb, length}
use Rattle.lists.specs.Tabulate.{tab, all, sum_to, concat}
use Rattle.field.specs.Field.{prime, product, inverse}
use Rattle.polynomial.specs.Polynomial.{value}
use Rattle.members.specs.Members.{size}

-- 1 · 2 · .. · k
unfoldable pub factorial : ℕ → ℕ
factorial zero = 1
factorial (suc k) = suc k * factorial k

-- 1 if k is even, and −1, which is 65520, if it is odd
unfoldable pub sign : ℕ → ℕ
sign k = cond (eqb (k % 2) 0) 1 65520

-- the rule: w is the field word whose product with the factorials of i and of n − 1 − i is 1 or −1, by the parity of n − 1 − i
pub record IsWeight (n i w : ℕ) : Type 0 where
  pub word : w < prime
  pub rule : product w (factorial i * factorial (n - suc i)) ≡ sign (n - suc i)

-- the weight of member i of n
unfoldable pub weight : ℕ → ℕ → ℕ
weight n i = product (sign (n - suc i)) (inverse (factorial i * factorial (n - suc i)))

-- the table: those of n = 3, 5, .., 31 members
unfoldable pub weights : List ℕ
weights = concat (tab 15 (λ k. tab (size (suc k)) (weight (size (suc k)))))

-- where the weight of member i stands in the table, for n = 2t + 1
abbrev pub place : ℕ → ℕ → ℕ
place t i = t * t - 1 + i

-- the sum over the n members of w(n, i) times the point to the power m times the word
unfoldable pub parity : ℕ → ℕ → (ℕ → ℕ) → ℕ
parity n m y = sum_to n (λ i. weight n i * suc i ^ m * y i) % prime

-- the words pass: the sums for m = 0, .., t − 1 are 0
unfoldable pub balanced : ℕ → (ℕ → ℕ) → Bool
balanced t y = all t (λ m. eqb (parity (size t) m y) 0)

-- the words of n = 2t + 1 members lie on a polynomial (document 02: curve) of degree at most t, at the members' points 1 to n
pub record Lies (t : ℕ) (y : ℕ → ℕ) : Type 0 where
  pub f : List ℕ
  pub degree : length f ≤ suc t
  pub meets : (i : ℕ) → i < size t → value f (suc i) ≡ y i
