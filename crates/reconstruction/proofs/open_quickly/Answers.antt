-- `reconstruction::open_quickly`: where somebody was struck nothing is opened.
-- Assumes nothing.
use Rattle.reconstruction.proofs.Quick.{none_opened}
use Rattle.reconstruction.proofs.open_quickly.Goals as goal

pub returns-then-survivors-all-clause-secret_after : goal.returns-then-survivors-all-clause-secret_after
returns-then-survivors-all-clause-secret_after c = none_opened _ _ _
