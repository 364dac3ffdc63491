-- A test that passes at most m times among the first n numbers, m at most n, grows to one that passes m times.
-- Assumes nothing.
use mathlib.Core.Path.{◌≡◌, refl, sym, ap, ◌∙◌}
use mathlib.Core.Logic.{inl, inr}
use mathlib.Core.Bool.{Bool, true, false}
use Prim.Native.Nat.{ℕ, zero, suc, ◌+◌, ◌-◌, ◌≤◌, ◌<◌}
use native.Mathlib.Nat.{le_of_suc-le-suc}
use native.Mathlib.Decide.{dec_le}
use native.Mathlib.Omega.{arith}
use Rattle.lists.specs.Tabulate.{count}
use Rattle.lists.proofs.Bools.{test}
use Rattle.lists.proofs.Count.{to_ℕ, count-all}

-- a test that passes wherever p does, m times among n
pub record Grown (n m : ℕ) (p : ℕ → Bool) : Type 0 where
  pub grown : ℕ → Bool
  pub wider : (i : ℕ) → i < n → p i ≡ true → grown i ≡ true
  pub many : count n grown ≡ m

-- one place in front
abbrev before : Bool → (ℕ → Bool) → ℕ → Bool
before b q zero = b
before b q (suc i) = q i

grown_more : (n m k : ℕ) (p : ℕ → Bool) (b : Bool) → (p 0 ≡ true → b ≡ true) → to_ℕ b + k ≡ m → Grown n k (λ i. p (suc i)) → Grown (suc n) m p
unfolding count
grown_more n m k p b h e g =
    record { grown = before b g.grown; wider = at; many = ap (λ (c : ℕ). to_ℕ b + c) g.many ∙ e }
  where
    at : (i : ℕ) → i < suc n → p i ≡ true → before b g.grown i ≡ true
    at zero l t = h t
    at (suc i) l t = g.wider i (le_of_suc-le-suc l) t

pub count_grown : (n m : ℕ) (p : ℕ → Bool) → count n p ≤ m → m ≤ n → Grown n m p
unfolding count
count_grown zero m p few room = record { grown = p; wider = λ i l t. t; many = omega arith }
count_grown (suc n) m p few room =
    elim (dec_le m n) [
      | no k ↦ record { grown = λ i. true; wider = λ i l t. refl; many = count-all (suc n) (λ i. true) (λ i l. refl) ∙ omega arith }
      | yes k ↦
          elim (test (p 0)) [
            | inl e ↦
                let one : to_ℕ (p 0) ≡ 1 = rw e in
                grown_more n m (m - 1) p true (λ t. refl) (omega (arith, one)) (count_grown n (m - 1) (λ i. p (suc i)) (omega (arith, one)) (omega arith))
            | inr e ↦
                let none : to_ℕ (p 0) ≡ 0 = rw e in
                grown_more n m m p false (λ t. sym e ∙ t) (omega arith) (count_grown n m (λ i. p (suc i)) (omega (arith, none)) k)
          ]
    ]
