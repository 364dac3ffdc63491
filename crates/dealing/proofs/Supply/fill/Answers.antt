-- `dealing::Supply::fill`: what `own_points` writes are the members' own points, n of them.
-- Assumes nothing.
use Rattle.std.proofs.Common.{List, ℕ, ap, ◌∙◌, arith, length-take}
use Rattle.members.proofs.Points.{own_written}
use Rattle.dealing.specs.Dealing.{dealt_shares}
use Rattle.dealing.proofs.Supply.fill.Goals as goal

pub returns : goal.returns
returns c =
    let s = c.args.self.now in
    let own = own_written s.shape.t _ c.own_points.new.points (simp length-take (omega (arith, s.shape.few, s.shape.members))) c.own_points.ensures in
    c.fill_shares.ensures ∙ ap (λ (xs : List ℕ). dealt_shares xs s.shape.t s.day s.secret.now s.random.now) own
