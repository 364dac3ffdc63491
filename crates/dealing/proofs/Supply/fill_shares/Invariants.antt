-- `dealing::Supply::fill_shares`: the first i shares stand one after the other.
-- Assumes nothing.
use Rattle.std.proofs.Common.{◌≡◌, ◌*◌, take}
use Rattle.lists.specs.Tabulate.{tab, concat}
use Rattle.dealing.specs.Dealing.{dealt_share}
use Rattle.dealing.proofs.Supply.fill_shares.Given as goal

abbrev pub invariant-loop-i : goal.invariant-loop-i
invariant-loop-i l =
    take (l.i * l.width) l.shares
    ≡ concat (tab l.i (dealt_share l.points l.self.shape.t l.self.day l.self.secret.now l.self.random.now))
