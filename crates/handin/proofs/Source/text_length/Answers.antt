-- The text is the D line and the P lines; it is short, so that the sum fits.
-- Assumes nothing.
use Rattle.std.proofs.Common.{arith}
use Rattle.handin.proofs.TextLength.{text_fits}
use Rattle.handin.proofs.WriterChecks.{text_length}
use Rattle.handin.proofs.Source.text_length.Goals as goal

pub overflow_add-result : goal.overflow_add-result
overflow_add-result c =
    let s = c.args.self.now in
    omega (arith, text_fits s.shares.shape s.shares.words.now s.small s.present s.quorum (omega arith) s.day (omega arith) _ _ c.first_length.ensures c.shares_length.ensures)

pub returns : goal.returns
returns c =
    let s = c.args.self.now in
    text_length s.shares.shape s.quorum s.day s.present _ _ _ c.first_length.ensures c.shares_length.ensures
