-- Places among the random words: small, and inside.
-- Assumes nothing.
use mathlib.Core.Path.{◌≡◌, ap, ap₂}
use mathlib.Core.List.{List}
use Prim.Native.Nat.{ℕ, suc, ◌+◌, ◌*◌, ◌≤◌, ◌<◌}
use native.Mathlib.Nat.{mul-le-mul, mul-le-mul_left, mul-suc}
use native.Mathlib.Omega.{arith}
use lib.ListN.{get_or}
use Rattle.members.specs.Members.{size}
use Rattle.shares.specs.declared.Shape.{Shape}
use Rattle.shares.proofs.Places.{row_inside}
use Rattle.dealing.specs.Dealing.{random_length, dealt_α, dealt_β}
use Rattle.dealing.specs.Internal.Steps.{KeyAt}

-- word k's coefficients are among the random words, and the keys, which are more, come after them
pub coefficients_inside : (t d k count : ℕ) → count ≡ random_length t d → k < d → t * k + t + t ≤ count
unfolding random_length size
coefficients_inside t d k count e h =
    let m : t * suc k ≤ t * d = mul-le-mul_left t h in
    let more : size t * 1 ≤ size t * size t = mul-le-mul_left (size t) (omega arith) in
    omega (arith, m, more, mul-suc t k, e)

-- the numbers are small, and the places inside
module _ (s : Shape) where
  pub coefficients_le : s.t * s.d ≤ 960
  coefficients_le = mul-le-mul {n₂ = 15} {m₂ = 64} s.t_high s.d_high

  pub row_le : (i : ℕ) → i ≤ s.n → i * s.n ≤ 961
  row_le i p = mul-le-mul {n₂ = 31} {m₂ = 31} (omega (arith, s.few)) s.few

  -- key(i,j) stands where the code looks, among the random words
  pub key_at : (i j : ℕ) → i < s.n → j < s.n → KeyAt s i j (s.t * s.d + 2 * (i * s.n + j))
  unfolding random_length
  key_at i j p q =
      let all : s.n * s.n ≡ size s.t * size s.t = ap₂ ◌*◌ s.members s.members in
      record {
        stands = ap (λ (n : ℕ). s.t * s.d + 2 * (i * n + j)) s.members;
        inside = omega (arith, row_inside i s.n s.n p);
      }

-- what stands there
module _ (s : Shape) (i j place : ℕ) (random : List ℕ) (at : KeyAt s i j place) where
  pub α_there : get_or random place 0 ≡ dealt_α s.t s.d random i j
  unfolding dealt_α
  α_there = ap (λ (p : ℕ). get_or random p 0) at.stands

  pub β_there : get_or random (place + 1) 0 ≡ dealt_β s.t s.d random i j
  unfolding dealt_β
  β_there = ap (λ (p : ℕ). get_or random (p + 1) 0) at.stands
