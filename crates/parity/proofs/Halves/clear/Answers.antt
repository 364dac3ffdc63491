-- `parity::Halves::clear`: all are 0, and so fit.
-- Assumes nothing.
use Rattle.parity.proofs.Summing.{cleared, cleared_fits}
use Rattle.parity.proofs.Halves.clear.Goals as goal

pub invariant_of-self : goal.invariant_of-self
invariant_of-self c = record { fits = cleared_fits 31 (cleared _ _ (c.fill.ensures.after (λ y e. e)) (c.fill-2.ensures.after (λ y e. e))) }

pub returns : goal.returns
returns c = cleared _ _ (c.fill.ensures.after (λ y e. e)) (c.fill-2.ensures.after (λ y e. e))
