-- Checks in an order: an operation refuses with the number of the first check that fails.
-- Assumes nothing.
use Rattle.std.specs.Prelude.{ℕ, Bool, true, false, ◌&&◌, List, [], ◌∷◌, leb}

infix 68 ◌unless◌
-- a refusal's number, and the test that an accepted input passes
pub record Check : Type 0 where
  pub number : ℕ
  pub passes : Bool

abbrev pub ◌unless◌ : ℕ → Bool → Check
number unless passes = record { number = number; passes = passes }

-- the refusal of the first check that fails, or the answer where all pass
abbrev pub checked : {A : Type 0} → (ℕ → A) → List Check → A → A
checked refuse [] answer = answer
checked refuse (c ∷ cs) answer = elim c.passes [ true ↦ checked refuse cs answer | false ↦ refuse c.number ]

-- low ≤ x ≤ high
abbrev pub within : ℕ → ℕ → ℕ → Bool
within low high x = leb low x && leb x high
