-- `lanes::lane`: the sum of the first word and m products, in halves that stay small.
-- Assumes nothing.
use Rattle.std.proofs.Common.{◌≡◌, [], ◌+◌, ◌*◌, ◌≤◌, get_or}
use Rattle.lists.specs.Tabulate.{sum_to}
use Rattle.lanes.proofs.lane.Given as goal

abbrev pub invariant-loop-m : goal.invariant-loop-m
invariant-loop-m l =
    (l.sum.low + 65536 * l.sum.high ≡ get_or l.eight 0 0 + sum_to l.m (λ m. get_or (get_or l.rows m []) l.j 0 * get_or l.eight (m + 1) 0))
    × (l.sum.low ≤ (l.m + 1) * 65535)
    × (l.sum.high ≤ l.m * 65535)
