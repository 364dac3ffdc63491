-- `locator::raise`: what is done, and then (X − x) times what is left with the carry, is the whole.
-- Assumes nothing.
use Rattle.std.proofs.Common.{◌≡◌, ◌++◌, length, take, drop}
use Rattle.locator.specs.Internal.Pairs.{raised}
use Rattle.locator.proofs.raise.Given as goal

abbrev pub invariant-loop-coefficient : goal.invariant-loop-coefficient
invariant-loop-coefficient l = record {
  long : length l.f ≡ 32;
  so_far : take l.coefficient-index l.f ++ raised l.x l.carry (drop l.coefficient-index l.f) ≡ raised l.x 0 l.initial.f;
}
