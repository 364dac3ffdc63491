-- The buffer's length is judged, then the text's; then the lines are read.
-- Assumes nothing.
use Rattle.std.proofs.Common.{rules}
use Rattle.handin.proofs.Reading.{refused_so, read_25, read_21, read_whole}
use Rattle.handin.proofs.read_text.Goals as goal

pub returns-in_default : goal.returns-in_default
returns-in_default c = read_25 _ _ _ (search rules) (refused_so _ _ _ (search rules))

pub returns-then-text-gt40000 : goal.returns-then-text-gt40000
returns-then-text-gt40000 c = read_21 _ _ (search rules) _ c.if-text-gt40000.true (refused_so _ _ _ (search rules))

pub returns : goal.returns
returns c = read_whole _ _ (search rules) _ c.if-text-gt40000.false (search rules)
