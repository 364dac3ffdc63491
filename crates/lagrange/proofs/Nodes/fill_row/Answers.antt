-- `lagrange::Nodes::fill_row`: the words of all points are the row.
-- Assumes nothing.
use Rattle.std.proofs.Common.{◌≡◌, sym, ap, ◌∙◌, length, take, arith}
use Rattle.lists.specs.Tabulate.{tab}
use Rattle.lagrange.proofs.Lagrange.{entry_of, row_reads}
use Rattle.lagrange.proofs.Nodes.fill_row.Goals as goal

pub returns : goal.returns
returns c =
    let all : c.loop-m.m ≡ length c.args.self.now.points.now = omega arith in
    row_reads _ c.args.self.now.apart _ c.requires _
    (ap (λ n. take n c.loop-m.row) (sym all) ∙ c.loop-m.invariant ∙ ap (λ n. tab n (entry_of c.args.self.now.points.now c.args.x)) all)
