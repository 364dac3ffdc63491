-- `reconstruction::refuse`: the buffer is filled.
-- Assumes nothing.
use Rattle.reconstruction.proofs.Opening.{refused_so}
use Rattle.reconstruction.proofs.refuse.Goals as goal

pub returns : goal.returns
returns c = refused_so _ _ _ _ c.fill.ensures
