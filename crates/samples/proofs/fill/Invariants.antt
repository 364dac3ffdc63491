-- `samples::fill`: what is written, and then what the last word gives for the places that are left, for every function that the closure computes.
-- Assumes nothing.
use Rattle.std.proofs.Common.{◌≡◌, ℕ, ◌-◌, ◌^◌, ◌<◌, ◌++◌, length, take}
use Rattle.samples.specs.Internal.Iterated.{iterated}
use Rattle.samples.proofs.fill.Given as goal

abbrev pub invariant-loop-word : goal.invariant-loop-word
invariant-loop-word g l =
    (l.last < 2 ^ 16)
    × ((f : ℕ → ℕ) → ((x y : ℕ) → x < 2 ^ 16 → goal.F-post g l.next x y → y ≡ f x)
    → take l.word-index l.word-items ++ iterated f (length l.fn.words - l.word-index) l.last ≡ iterated f (length l.fn.words) l.fn.seed)
