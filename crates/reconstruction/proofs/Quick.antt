-- Words that the quick look opens: all survivors meet their polynomials, and their values at 0 are stored.
-- Assumes nothing.
use mathlib.Core.Path.{◌≡◌, refl, sym, ap, ◌∙◌, subst}
use mathlib.Core.Logic.{inl, inr}
use mathlib.Core.Bool.{Bool, true, cond}
use mathlib.Core.List.{List}
use Prim.Native.Nat.{ℕ, ◌≤◌, ◌<◌, zero-le}
use native.Mathlib.Nat.{le_trans, le_of_eq, lt_of_lt_of_le, not-suc-le-zero}
use native.Mathlib.Omega.{arith}
use lib.Dec.{eqb}
use lib.ListN.{length, get_or}
use borrow.Author.Tests.{eqb-true}
use Rattle.lists.specs.Tabulate.{tab}
use Rattle.lists.proofs.Bools.{test}
use Rattle.polynomial.specs.Polynomial.{value}
use Rattle.members.specs.Members.{size, own_points, has, first_of}
use Rattle.members.proofs.Points.{own_point}
use Rattle.members.proofs.Words.{has-first_of}
use Rattle.parity.specs.Parity.{balanced, Lies}
use Rattle.parity.specs.Internal.Looking.{looked, with_values}
use Rattle.parity.proofs.Balance.{balanced_lies}
use Rattle.parity.proofs.Turns.{leading_passes, looked-le, opened_at}
use Rattle.parity.proofs.Zero.{constant_is}
use Rattle.reconstruction.specs.declared.Survivors.{Survivors}
use Rattle.reconstruction.specs.Internal.Steps.{Met, Begun, quickly}
use Rattle.reconstruction.specs.Internal.Words.{words}

-- words that lie on a polynomial of degree at most t: all of any set meet it
pub lies_met : (t : ℕ) (y : ℕ → ℕ → ℕ) (s j v : ℕ) (l : Lies t (λ i. y i j)) → v ≡ value l.f 0 → Met (own_points t) t y s j v
lies_met t y s j v l e =
    record { f = l.f; degree = l.degree; meets = λ i h m. ap (value l.f) (own_point t i h) ∙ l.meets i h; at_zero = e }

-- nothing is opened, and nothing stored
pub none_opened : (t : ℕ) (y : ℕ → ℕ → ℕ) (secret : List ℕ) → secret ≡ with_values t 0 y secret
unfolding with_values tab
none_opened t y secret = refl

module _ (remaining : Survivors) where
  open remaining use {set as s, decodable as dec, shares.{shape, shape.{t, d, t_low, t_high}}}

  abbrev y : ℕ → ℕ → ℕ
  y = words remaining

  module _ (r : ℕ) (before after : List ℕ) (after_is : after ≡ with_values t r y before) (long : length before ≡ d) where
    looked_begun : s ≡ first_of shape.n → r ≡ looked t d y → Begun (own_points t) t d y s r after
    unfolding looked
    looked_begun all er = record { inside = inside; each = each }
      where
        inside : r ≤ d
        inside = looked-le t d y r er

        own : (i : ℕ) → i < size t → has s i ≡ true
        own i h = ap (λ (m : ℕ). has m i) all ∙ has-first_of shape.n i (omega (arith, shape.few)) (subst (λ (n : ℕ). i < n) (sym shape.members) h)

        lies : (j : ℕ) → j < r → Lies t (λ i. y i j)
        lies j l =
            balanced_lies t t_low t_high (λ i. y i j)
            (λ i h. dec.field i h (own i h) j (lt_of_lt_of_le l inside))
            (leading_passes d (λ k. balanced t (λ i. y i k)) j (subst (λ (n : ℕ). j < n) er l))

        each : (j : ℕ) → j < r → Met (own_points t) t y s j (get_or after j 0)
        each j l =
            lies_met t y s j (get_or after j 0) (lies j l)
            (ap (λ (w : List ℕ). get_or w j 0) after_is
            ∙ opened_at t r y before j (le_trans inside (le_of_eq (sym long))) l
            ∙ constant_is t t_low t_high (λ i. y i j) (lies j l))

    none_begun : r ≡ 0 → Begun (own_points t) t d y s r after
    none_begun e =
        record {
          inside = subst (λ (n : ℕ). n ≤ d) (sym e) zero-le;
          each = λ j l. absurd (not-suc-le-zero (subst (λ (n : ℕ). j < n) e l));
        }

    pub quick_begun : r ≡ quickly shape remaining.shares.words.now s → Begun (own_points t) t d y s r after
    quick_begun er =
        elim (test (eqb s (first_of shape.n))) [
          | inl e ↦ looked_begun (eqb-true s (first_of shape.n) e) (er ∙ ap (λ (b : Bool). cond b (looked t d y) 0) e)
          | inr e ↦ none_begun (er ∙ ap (λ (b : Bool). cond b (looked t d y) 0) e)
        ]
