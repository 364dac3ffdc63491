-- `reconstruction::Survivors::work_out`: a polynomial that the decoder finds is the word's, and its values are expected.
-- Assumes nothing.
use Rattle.reconstruction.proofs.ByWord.{came_none, came_found}
use Rattle.reconstruction.proofs.Survivors.work_out.Goals as goal

pub returns-in_default : goal.returns-in_default
returns-in_default c = came_none c.args.self.now _ c.requires.0 _ _ c.in_default.ensures

pub returns : goal.returns
returns c = came_found c.args.self.now _ c.requires.0 _ c.in-Ok.ensures c.requires.2 c.evaluate_all.ensures c.meeting.ensures
