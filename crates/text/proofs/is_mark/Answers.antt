-- A tab is 9, and a line end is 10.
-- Assumes nothing.
use Rattle.text.proofs.Bytes.{mark_tab, mark_end}
use Rattle.text.proofs.is_mark.Goals as goal

pub returns-in-Tab : goal.returns-in-Tab
returns-in-Tab c = search mark_tab

pub returns-in-End : goal.returns-in-End
returns-in-End c = search mark_end
