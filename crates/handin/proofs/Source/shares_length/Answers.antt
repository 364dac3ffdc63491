-- A line more is counted; the lines are short, so that the sum fits.
-- Assumes nothing.
use Rattle.std.proofs.Common.{add-one, arith}
use Rattle.handin.proofs.TextLength.{lines_fit}
use Rattle.handin.proofs.Writing.{no_lines, length_more}
use Rattle.handin.proofs.Source.shares_length.Goals as goal

pub loop-i-init : goal.loop-i-init
loop-i-init c = rw no_lines

pub overflow_add-count : goal.overflow_add-count
overflow_add-count c =
    let s = c.args.self.now in
    omega (arith, lines_fit s.shares.shape s.shares.words.now s.small s.present _ c.loop-i.i _ c.loop-i-test.true c.loop-i.invariant c.share_length-count.ensures)

pub loop-i-preserved : goal.loop-i-preserved
loop-i-preserved c = rw (add-one, length_more) (omega arith)
