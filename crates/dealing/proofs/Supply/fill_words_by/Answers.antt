-- `dealing::Supply::fill_words_by`: word k's coefficients are among the random words.
-- Assumes nothing.
use Rattle.std.proofs.Common.{arith}
use Rattle.dealing.proofs.Places.{coefficients_inside}
use Rattle.dealing.proofs.Supply.fill_words_by.Goals as goal

pub slice_bounds-value_at-end : goal.slice_bounds-value_at-end
slice_bounds-value_at-end g c =
    let s = c.args.self.now in
    omega (arith, coefficients_inside s.shape.t s.shape.d c.loop-k.k _ s.supplied.random_long (omega arith))
