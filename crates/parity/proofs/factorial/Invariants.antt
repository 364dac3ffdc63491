-- `parity::factorial`: the result is the factorial of k modulo p.
-- Assumes nothing.
use Rattle.std.proofs.Common.{◌≡◌, ◌%◌}
use Rattle.field.specs.Field.{prime}
use Rattle.parity.specs.Parity.{factorial}
use Rattle.parity.proofs.factorial.Given as goal

abbrev pub invariant-loop-k : goal.invariant-loop-k
invariant-loop-k l = l.result ≡ factorial l.k % prime
