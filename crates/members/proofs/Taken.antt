-- A loop that takes the members that pass a test.
-- Assumes nothing.
use mathlib.Core.Path.{◌≡◌, refl, ap, ◌∙◌}
use mathlib.Core.Bool.{Bool, cond}
use Prim.Native.Nat.{ℕ, ◌+◌, ◌≤◌, ◌<◌, zero-le}
use native.Mathlib.Omega.{arith}
use Rattle.members.specs.Members.{set_of, adding}
use Rattle.members.proofs.Words.{set_of_step}

-- of the first i of n members, those that pass are in the set
pub record Taken (p : ℕ → Bool) (n set i : ℕ) : Type 0 where
  pub inside : i ≤ n
  pub so_far : set ≡ set_of i p

module _ (p : ℕ → Bool) (n : ℕ) where
  pub taken_first : Taken p n 0 0
  unfolding set_of
  taken_first = record { inside = zero-le; so_far = refl }

  pub taken_next : (set i s : ℕ) → i < n → n ≤ 31 → Taken p n set i → s ≡ cond (p i) (adding set i) set → Taken p n s (i + 1)
  taken_next set i s h l r e =
      record {
        inside = omega arith;
        so_far = e ∙ ap (λ (m : ℕ). cond (p i) (adding m i) m) r.so_far ∙ set_of_step i p (p i) (omega arith) refl;
      }
