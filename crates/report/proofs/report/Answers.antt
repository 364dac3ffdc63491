-- What is written from the front on is the answer.
-- Assumes nothing.
use Rattle.text.proofs.Writing.{written_as}
use Rattle.report.proofs.Lines.{reported}
use Rattle.report.proofs.report.Goals as goal

pub returns : goal.returns
returns c = reported (written_as c.open_text-answer.ensures c.put_answer.ensures.written) c.new-printed.ensures.same_bytes c.new-printed.ensures.front c.end.ensures
