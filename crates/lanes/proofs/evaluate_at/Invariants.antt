-- `lanes::evaluate_at`: the values are those of the words gone over so far, from the last one back.
-- Assumes nothing.
use Rattle.std.proofs.Common.{◌≡◌, ◌*◌, ◌/◌, ◌++◌, length, map, reverse, drop}
use Rattle.lists.specs.Tabulate.{concat}
use Rattle.lanes.proofs.Values.{values_at}
use Rattle.lanes.proofs.evaluate_at.Given as goal

abbrev pub invariant-loop-word : goal.invariant-loop-word
invariant-loop-word l = l.lanes ≡ values_at (reverse (map (λ w. w.now) l.yielded)) l.points

abbrev pub invariant-loop-eight : goal.invariant-loop-eight
invariant-loop-eight l = l.lanes ≡ values_at (concat (reverse (map (λ e. e.now) l.yielded)) ++ drop (length l.words / 8 * 8) l.words) l.points
