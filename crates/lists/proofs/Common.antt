-- Two tests within a third, counted together.
-- Assumes nothing.
use mathlib.Core.Path.{◌≡◌}
use mathlib.Core.Bool.{Bool, true, ◌&&◌, not}
use Prim.Native.Nat.{ℕ, ◌+◌, ◌≤◌, ◌<◌}
use native.Mathlib.Omega.{arith}
use Rattle.lists.specs.Tabulate.{count}
use Rattle.lists.proofs.Bools.{and_intro, and_left, and_right}
use Rattle.lists.proofs.Count.{count_mono, count_split}

-- what passes two tests of which each passes only where a third does
pub count-common : (n : ℕ) (p q s : ℕ → Bool) → ((i : ℕ) → i < n → p i ≡ true → s i ≡ true) → ((i : ℕ) → i < n → q i ≡ true → s i ≡ true)
    → count n p + count n q ≤ count n s + count n (λ i. p i && q i)
count-common n p q s hp hq =
    omega (
      arith,
      count_split n p q,
      count_split n s q,
      count_mono n q (λ i. s i && q i) (λ i k e. and_intro (hq i k e) e),
      count_mono n (λ i. p i && not (q i)) (λ i. s i && not (q i))
          (λ i k e. and_intro (hp i k (and_left (p i) (not (q i)) e)) (and_right (p i) (not (q i)) e)),
    )
