-- What is printed is the report of the front of what the reader gives, which is that of all of it.
-- Assumes nothing.
use Rattle.std.proofs.Common.{rules, length}
use Rattle.opening.proofs.Room.{AnswersFront, answers_all}
use Rattle.opening.proofs.run.Goals as goal

pub returns-clause-answer : goal.returns-clause-answer
returns-clause-answer g c =
    let front : AnswersFront c.map_err-2.result (g.R.Read.remaining c.args.reader.now) (length c.args.text.now)
    (g.W.Write.contents c.args.writer.now) (g.W.Write.contents c.print.new.writer)
    = search rules in
    λ h. answers_all _ _ _ _ _ h front
