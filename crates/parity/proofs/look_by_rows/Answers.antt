-- `parity::look_by_rows`: not more words are opened than there are, and their values are the sums.
-- Assumes nothing.
use Rattle.std.proofs.Common.{◌≤◌, sym, arith}
use Rattle.std.proofs.Math.Seq.{length-take-le}
use Rattle.parity.proofs.Turns.{looked-le, stored_in_part}
use Rattle.parity.proofs.look_by_rows.Goals as goal

pub slice_bounds-store_values-end : goal.slice_bounds-store_values-end
slice_bounds-store_values-end c = omega (arith, looked-le _ _ _ _ c.count_balanced-left.ensures)

pub slice_bounds-store_values-end-2 : goal.slice_bounds-store_values-end-2
slice_bounds-store_values-end-2 c = sym (length-take-le _ _ (omega (arith, looked-le _ _ _ _ c.count_balanced-left.ensures)))

pub returns-clause-secret_after : goal.returns-clause-secret_after
returns-clause-secret_after c =
    let few : c.count_balanced-left.result ≤ c.args.shares.now.shape.d = looked-le _ _ _ _ c.count_balanced-left.ensures in
    stored_in_part _ _ _ _ _ _ _ _ _ _ _ c.args.shares.now.shape.members c.fill_zero_weights.ensures c.sum_row.ensures few
    (omega arith) (length-take-le _ _ (omega arith)) c.store_values.ensures
