-- The sum is a remainder.
use Rattle.std.proofs.Common.{◌<◌}
use Rattle.test_handin.proofs.checksum.Given as goal

abbrev pub invariant-loop-word : goal.invariant-loop-word
invariant-loop-word l = l.sum < 65521
