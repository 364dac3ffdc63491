-- The buffer is cleared where the answer is a refusal.
-- Assumes nothing.
use Rattle.std.proofs.Common.{sym}
use Rattle.handin.proofs.Reading.{cleared-ok, cleared-err}
use Rattle.handin.proofs.read.Goals as goal

pub returns-then-is_err : goal.returns-then-is_err
returns-then-is_err c = cleared-err _ _ _ _ (sym c.if-is_err.ensures.value) (c.fill.ensures.after (λ y e. e)) c.read_text-answer.ensures

pub returns-else-is_err : goal.returns-else-is_err
returns-else-is_err c = cleared-ok _ _ _ (sym c.if-is_err.ensures.value) c.read_text-answer.ensures
