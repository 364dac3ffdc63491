-- The loop over the members: after i of them the pairs are the state after i members.
-- Assumes nothing.
use Rattle.std.proofs.Common.{◌≡◌, ℕ, suc, ◌+◌, ◌≤◌, Bool, true, false, cond, List, get_or, sym, ap, ◌∙◌, add-one, arith}
use mathlib.Core.Bool.{not}
use lib.Dec.{eqb}
use borrow.Author.Tests.{not-true, not-false}
use Rattle.members.specs.Members.{has}
use Rattle.locator.specs.Internal.Pairs.{off_by, State, first_up, second_up, first_turn, step_by, stepped, passed}

-- a choice by a test that the code negates: a member outside the set, and one in it
pub left_out : {A : Type 0} (b : Bool) (u s : A) → not b ≡ true → s ≡ cond b u s
left_out b u s n = sym (ap (λ (c : Bool). cond c u s) (not-true b n))

pub taken_in : {A : Type 0} (b : Bool) (r u s : A) → not b ≡ false → r ≡ u → r ≡ cond b u s
taken_in b r u s n h = h ∙ sym (ap (λ (c : Bool). cond c u s) (not-false b n))

-- a step raises one degree at most
by_turn : (b c : Bool) (x d0 d1 : ℕ) (s : State)
    → let u : State = cond b (first_up x d0 d1 s) (cond c s (second_up x d0 d1 s)) in u.a + u.b ≤ suc (s.a + s.b)
unfolding first_up second_up
by_turn true c x d0 d1 s = omega arith
by_turn false true x d0 d1 s = omega arith
by_turn false false x d0 d1 s = omega arith

pub one_more : (t x y : ℕ) (s u : State) → u ≡ stepped t x y s → u.a + u.b ≤ suc (s.a + s.b)
unfolding stepped step_by
one_more t x y s u e =
    let d : u.a + u.b ≡ _ = ap (λ (v : State). v.a + v.b) e in
    omega (arith, by_turn (first_turn t (off_by x y s.n0 s.e0) (off_by x y s.n1 s.e1) s.a s.b) (eqb (off_by x y s.n1 s.e1) 0) x (off_by x y s.n0 s.e0) (off_by x y s.n1 s.e1) s)

module _ (xs : List ℕ) (t : ℕ) (y : ℕ → ℕ) (set len i : ℕ) where
  -- member i is in the set, and makes its step
  pub passed_in : has set i ≡ true → (s u : State) → s ≡ passed xs t y set len i → u ≡ stepped t (get_or xs i 0) (y i) s → u ≡ passed xs t y set len (i + 1)
  unfolding passed
  passed_in h s u e eu =
      eu
      ∙ ap (stepped t (get_or xs i 0) (y i)) e
      ∙ sym (ap (λ (b : Bool). cond b (stepped t (get_or xs i 0) (y i) (passed xs t y set len i)) (passed xs t y set len i)) h)
      ∙ ap (passed xs t y set len) (sym (add-one i))

  -- it is not, and is left out
  pub passed_out : has set i ≡ false → (s : State) → s ≡ passed xs t y set len i → s ≡ passed xs t y set len (i + 1)
  unfolding passed
  passed_out h s e =
      e
      ∙ sym (ap (λ (b : Bool). cond b (stepped t (get_or xs i 0) (y i) (passed xs t y set len i)) (passed xs t y set len i)) h)
      ∙ ap (passed xs t y set len) (sym (add-one i))
