-- `reconstruction::surviving`: pruning takes n rows that are sets of members, and answers their survivors.
-- Assumes nothing.
use Rattle.std.proofs.Common.{◌∙◌}
use Rattle.reconstruction.proofs.Halves.{surviving_lem}
use Rattle.reconstruction.proofs.surviving.Goals as goal

pub returns : goal.returns
returns c = c.unwrap_or.ensures ∙ surviving_lem _ _ c.requires.0 c.requires.1 c.requires.2 _ c.prune.ensures
