-- `dealing::Supply::fill_tags_singly`: the first j tags are written.
-- Assumes nothing.
use Rattle.std.proofs.Common.{◌≡◌, take}
use Rattle.lists.specs.Tabulate.{tab}
use Rattle.dealing.specs.Internal.Steps.{tag_of}
use Rattle.dealing.proofs.Supply.fill_tags_singly.Given as goal

abbrev pub invariant-loop-j : goal.invariant-loop-j
invariant-loop-j l = take l.j l.tags ≡ tab l.j (tag_of l.self.shape.t l.self.shape.d l.self.day l.self.random.now l.i l.words)
