-- `parity::Halves::sum_row`: none is summed at first, and each member adds its products. A sum of at most 30 has room for one more.
-- Assumes nothing.
use Rattle.std.proofs.Common.{ap, ◌∙◌, length, arith}
use Rattle.lists.proofs.Tabulate.{length-tab}
use Rattle.shares.specs.Layout.{share_words}
use Rattle.parity.proofs.Summing.{fits_most, summed_first, summed_next}
use Rattle.parity.proofs.Halves.sum_row.Goals as goal

pub loop-i-init : goal.loop-i-init
loop-i-init c = summed_first _ _ _ c.clear.ensures

pub add_member-requires-clause-few_words : goal.add_member-requires-clause-few_words
unfolding share_words
add_member-requires-clause-few_words c = omega (arith, ap length c.share_words.ensures ∙ length-tab _ _, c.args.shares.now.shape.d_high)

pub add_member-requires-clause-room : goal.add_member-requires-clause-room
add_member-requires-clause-room c = fits_most 30 (omega (arith, c.args.shares.now.shape.few)) c.loop-i.invariant.fits

pub loop-i-preserved : goal.loop-i-preserved
unfolding share_words
loop-i-preserved c = summed_next _ _ _ _ _ _ _ _ _ c.loop-i.invariant c.share_words.ensures c.add_member.ensures
