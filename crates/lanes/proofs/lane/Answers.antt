-- `lanes::lane`: one product more; and at the end, the last.
-- Assumes nothing.
use Rattle.std.proofs.Common.{◌≡◌, [], ◌+◌, ◌*◌, ◌%◌, ℕ, get_or, refl, ap, ◌∙◌, add-one, arith}
use Rattle.lists.specs.Tabulate.{sum_to}
use Rattle.lists.proofs.Sums.{sum_to_last}
use Rattle.field.specs.Field.{prime}
use Rattle.lanes.specs.Internal.Lanes.{eight_before}
use Rattle.lanes.proofs.lane.Goals as goal

pub loop-m-init : goal.loop-m-init
unfolding sum_to
loop-m-init c = (refl, omega (arith, c.fits-eight 0), omega arith)

sum_to_more : (m : ℕ) (f : ℕ → ℕ) → sum_to (m + 1) f ≡ sum_to m f + f m
sum_to_more m f = ap (λ (n : ℕ). sum_to n f) (add-one m) ∙ sum_to_last m f

pub loop-m-preserved : goal.loop-m-preserved
loop-m-preserved c =
    let more = sum_to_more c.loop-m.m (λ k. get_or (get_or c.args.rows.now k []) c.args.j 0 * get_or c.args.eight.now (k + 1) 0) in
    (omega (arith, more), omega arith, omega arith)

pub returns : goal.returns
unfolding eight_before
returns c =
    let all = ap (λ (n : ℕ). sum_to n (λ k. get_or (get_or c.args.rows.now k []) c.args.j 0 * get_or c.args.eight.now (k + 1) 0)) {x = c.loop-m.m} {y = 7} (omega arith) in
    c.join_halves.ensures ∙ ap (λ (n : ℕ). n % prime) (omega (arith, all))
