-- Two laws that docs/LANDINGS.md names and no proof needs now.
-- Assumes nothing.
use mathlib.Core.Path.{◌≡◌}
use mathlib.Core.List.{List}
use mathlib.Core.Bool.{true}
use Prim.Native.Nat.{ℕ, ◌+◌, ◌≤◌}
use native.Mathlib.Omega.{arith}
use borrow.Author.Tests.{leb-true, eq-eqb}
use lib.Dec.{leb}
use Rattle.lists.specs.Checks.{Check, checked}
use Rattle.lists.specs.Tabulate.{each}
use Rattle.lists.proofs.Blocks.{each_every}
use Rattle.lists.proofs.Checks.{checked_holds}
use Rattle.lists.proofs.Every.{every_map}
use Rattle.reconstruction.specs.Reconstruction.{required}

-- every refusal's number fits 16 bits, so the answer's does
pub number_fits : {A : Type 0} (refuse : ℕ → A) (number : A → ℕ) → ((k : ℕ) → number (refuse k) ≡ k) → (cs : List Check)
    → each (λ c. leb c.number 65535) cs ≡ true → (answer : A) → number answer ≤ 65535 → number (checked refuse cs answer) ≤ 65535
number_fits refuse number tells cs below answer h =
    checked_holds refuse (λ a. number a ≤ 65535) cs
    (every_map (λ c e. let f : c.number ≤ 65535 = leb-true c.number 65535 e in omega (arith, f, tells c.number)) (each_every (λ c. leb c.number 65535) cs below))
    answer h

-- the quorum 0 stands for t + 2
pub required_0 : (t quorum : ℕ) → quorum ≡ 0 → t + 2 ≡ required t quorum
unfolding required
required_0 t quorum e = rw (eq-eqb quorum 0 e)
