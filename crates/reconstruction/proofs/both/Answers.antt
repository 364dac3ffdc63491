-- `reconstruction::both`: a bit of the conjunction is 1 where both sets have the member.
-- Assumes nothing.
use Rattle.reconstruction.proofs.Sets.{both_and}
use Rattle.reconstruction.proofs.both.Goals as goal

pub returns : goal.returns
returns c = both_and c.args.a c.args.b c.ranges.a.fits c.ranges.b.fits
