-- `dealing::Supply::fill_shares`: each turn adds a share, and n of them are the whole buffer.
-- Assumes nothing.
use Rattle.std.proofs.Common.{ℕ, take, refl, ap, ◌*◌, ◌+◌, ◌≤◌, arith}
use Rattle.lists.specs.Tabulate.{tab, concat}
use Rattle.shares.proofs.Places.{row_inside}
use Rattle.dealing.specs.Dealing.{dealt_shares}
use Rattle.dealing.proofs.Filling.{shares_more, shares_done, share_long}
use Rattle.dealing.proofs.Supply.fill_shares.Goals as goal

pub loop-i-init : goal.loop-i-init
unfolding tab concat
loop-i-init c = ap (λ (k : ℕ). take k c.args.shares.now) {y = 0} (omega arith)

pub loop-i-preserved : goal.loop-i-preserved
loop-i-preserved c =
    let s = c.args.self.now in
    let inside : c.loop-i.i * s.shape.width + s.shape.width ≤ s.shape.n * s.shape.width = row_inside c.loop-i.i s.shape.n s.shape.width c.loop-i-test.true in
    shares_more _ s.shape.width c.loop-i.i _ c.loop-i.shares _ refl (omega arith)
    (share_long s.shape c.args.points.now s.day c.loop-i.i s.secret.now s.random.now s.supplied)
    c.loop-i.invariant c.fill_share.ensures

pub returns : goal.returns
unfolding dealt_shares
returns c =
    let s = c.args.self.now in
    shares_done _ s.shape.width s.shape.n c.loop-i.i _ c.loop-i.shares (omega arith) (omega arith) s.shape.members c.loop-i.invariant
