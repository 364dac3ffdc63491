-- Laws of checks in an order.
-- Assumes nothing.
use mathlib.Core.Path.{◌≡◌, refl, ap, ◌∙◌}
use mathlib.Core.Bool.{Bool, true, false}
use mathlib.Core.List.{List, [], ◌∷◌}
use Prim.Native.Nat.{ℕ, ◌≤◌, ◌<◌}
use native.Mathlib.Omega.{arith}
use borrow.Author.Tests.{ltb-true, leb-true, le-leb}
use lib.Dec.{leb, ltb}
use Rattle.lists.specs.Checks.{Check, ◌unless◌, checked, within}
use Rattle.lists.specs.Tabulate.{each}
use Rattle.lists.proofs.Bools.{and_intro, and_left, and_right}
use Rattle.lists.proofs.Every.{Every, none, more}

module _ {A : Type 0} (refuse : ℕ → A) (number : ℕ) (passes : Bool) (later : List Check) (answer : A) where
  -- the first check fails
  pub check_fails : passes ≡ false → checked refuse (number unless passes ∷ later) answer ≡ refuse number
  check_fails e = ap (λ (b : Bool). checked refuse (number unless b ∷ later) answer) e

  -- the first check passes
  pub check_passes : passes ≡ true → checked refuse (number unless passes ∷ later) answer ≡ checked refuse later answer
  check_passes e = ap (λ (b : Bool). checked refuse (number unless b ∷ later) answer) e

-- what holds of each refusal and of the answer holds of what the checks come to
pub checked_holds : {A : Type 0} (refuse : ℕ → A) (P : A → Type 0) (cs : List Check) → Every (λ c. P (refuse c.number)) cs
    → (answer : A) → P answer → P (checked refuse cs answer)
checked_holds refuse P [] none answer h = h
checked_holds refuse P (c ∷ cs) (more p ps) answer h = at c.passes (checked_holds refuse P cs ps answer h)
  where
    at : (b : Bool) → P (checked refuse cs answer) → P (elim b [ true ↦ checked refuse cs answer | false ↦ refuse c.number ])
    at true rest = rest
    at false rest = p

module _ {A : Type 0} (refuse : ℕ → A) (number : A → ℕ) (tells : (k : ℕ) → number (refuse k) ≡ k) where
  -- an answer with the number 0 has passed checks whose refusals have other numbers
  pub all_pass : (cs : List Check) → each (λ c. ltb 0 c.number) cs ≡ true → (answer : A) → number (checked refuse cs answer) ≡ 0
      → Every (λ c. c.passes ≡ true) cs
  unfolding each
  all_pass [] above answer h = none
  all_pass (c ∷ cs) above answer h =
      let (e, z) : (c.passes ≡ true) × (number (checked refuse cs answer) ≡ 0) =
      at c.passes (ltb-true 0 c.number (and_left _ _ above)) h in
      more e (all_pass cs (and_right (ltb 0 c.number) _ above) answer z)
    where
      at : (b : Bool) → 0 < c.number → number (elim b [ true ↦ checked refuse cs answer | false ↦ refuse c.number ]) ≡ 0
          → (b ≡ true) × (number (checked refuse cs answer) ≡ 0)
      at true low z = (refl, z)
      at false low z = absurd (omega (arith, tells c.number))

  every_passed : {cs : List Check} → Every (λ c. c.passes ≡ true) cs → (answer : A) → checked refuse cs answer ≡ answer
  every_passed none answer = refl
  every_passed (more {x = c} {xs = cs} e es) answer = check_passes refuse c.number c.passes cs answer e ∙ every_passed es answer

  pub all-passed : (cs : List Check) → each (λ c. ltb 0 c.number) cs ≡ true → (answer : A) → number (checked refuse cs answer) ≡ 0
      → checked refuse cs answer ≡ answer
  all-passed cs above answer h = every_passed (all_pass cs above answer h) answer

-- ---- low ≤ x ≤ high

pub within_intro : (low high x : ℕ) → low ≤ x → x ≤ high → within low high x ≡ true
within_intro low high x l h = and_intro (le-leb low x l) (le-leb x high h)

pub within_low : (low high x : ℕ) → within low high x ≡ true → low ≤ x
within_low low high x h = leb-true low x (and_left (leb low x) (leb x high) h)

pub within_high : (low high x : ℕ) → within low high x ≡ true → x ≤ high
within_high low high x h = leb-true x high (and_right (leb low x) (leb x high) h)
