-- `reconstruction::turn_away`: nothing is counted.
-- Assumes nothing.
use Rattle.reconstruction.proofs.Opening.{turned_away_lem}
use Rattle.reconstruction.proofs.turn_away.Goals as goal

pub returns : goal.returns
returns c = turned_away_lem _ _ _ c.refuse.ensures _ c.no_pairs.ensures
