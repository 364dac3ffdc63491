-- `reconstruction::Survivors::column_by`: the values below m are the words of the members passed, for every function that the closure computes.
-- Assumes nothing.
use Rattle.std.proofs.Common.{◌≡◌, ℕ, take}
use Rattle.lists.specs.Tabulate.{tab}
use Rattle.reconstruction.specs.Internal.Words.{words}
use Rattle.reconstruction.proofs.Survivors.column_by.Given as goal

abbrev pub invariant-loop-m : goal.invariant-loop-m
invariant-loop-m g l =
    (f : ℕ → ℕ) → ((m i : ℕ) → goal.F-post g l.member m i → i ≡ f m) → take l.m l.values ≡ tab l.m (λ m. words l.self (f m) l.k)
