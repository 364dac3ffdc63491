-- `decoding::Word::agreeing`: the members before i are counted.
-- Assumes nothing.
use Rattle.std.proofs.Common.{◌≡◌, ◌≤◌}
use Rattle.lists.specs.Tabulate.{count}
use Rattle.decoding.specs.Internal.Words.{meets_at}
use Rattle.decoding.proofs.Word.agreeing.Given as goal

abbrev pub invariant-loop-i : goal.invariant-loop-i
invariant-loop-i l = record {
  at_most : l.count ≤ l.i;
  so_far : l.count ≡ count l.i (meets_at l.self l.f);
}
