-- `locator::mix`: what is done, and then the combination of what is left, is the whole.
-- Assumes nothing.
use Rattle.std.proofs.Common.{◌≡◌, ◌++◌, length, take, drop}
use Rattle.locator.specs.Internal.Pairs.{mixed}
use Rattle.locator.proofs.mix.Given as goal

abbrev pub invariant-loop-j : goal.invariant-loop-j
invariant-loop-j l = record {
  long : length l.f ≡ 32;
  so_far : take l.j l.f ++ mixed l.u (drop l.j l.f) l.v (drop l.j l.g) ≡ mixed l.u l.initial.f l.v l.g;
}
