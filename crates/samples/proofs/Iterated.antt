-- Words written in place, each from the one before: what is written, and then what the last gives for the places that are left, is the same at each place.
-- Assumes nothing.
use mathlib.Core.Path.{◌≡◌, sym, ap, ◌∙◌}
use mathlib.Core.List.{List, ◌∷◌, ◌++◌}
use Prim.Native.Nat.{ℕ, suc, ◌+◌, ◌-◌, ◌≤◌, ◌<◌}
use native.Mathlib.Omega.{arith}
use lib.ListN.{length, take, set}
use Rattle.std.proofs.lemmas.List.{append-nil, take_all}
use Rattle.lists.proofs.InPlace.{done_set}
use Rattle.samples.specs.Internal.Iterated.{iterated}

module _ (f : ℕ → ℕ) where
  -- nothing is written yet
  pub iterated_none : (n x : ℕ) → iterated f (n - 0) x ≡ iterated f n x
  iterated_none n x = ap (λ (k : ℕ). iterated f k x) (omega arith)

  -- one word more
  pub iterated_next : (l : List ℕ) (n i x w : ℕ) → i < n → length l ≡ n → w ≡ f x
      → take (i + 1) (set l i w) ++ iterated f (n - (i + 1)) w ≡ take i l ++ iterated f (n - i) x
  unfolding iterated
  iterated_next l n i x w h e q =
      done_set l i w (omega (arith, e)) (iterated f (n - (i + 1)) w)
      ∙ ap (λ (v : ℕ). take i l ++ v ∷ iterated f (n - (i + 1)) v) q
      ∙ ap (λ (m : ℕ). take i l ++ iterated f m x) (let d : suc (n - (i + 1)) ≡ n - i = omega arith in d)

  -- all of them
  pub iterated_all : (l : List ℕ) (n i x : ℕ) → n ≤ i → length l ≡ n → l ≡ take i l ++ iterated f (n - i) x
  unfolding iterated
  iterated_all l n i x h e =
      sym (take_all i l (omega (arith, e)))
      ∙ sym (append-nil (take i l))
      ∙ ap (λ (m : ℕ). take i l ++ iterated f m x) (let d : 0 ≡ n - i = omega arith in d)
