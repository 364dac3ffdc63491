-- A line of the wrong shape is refused with 23, and one of the right shape is as good as its numbers.
-- Assumes nothing.
use Rattle.std.proofs.Common.{sym, ap, ◌∙◌}
use Rattle.std.proofs.lemmas.Result.{err_from_is_err_and}
use Rattle.text.specs.Lines.{line_of}
use Rattle.handin.proofs.Refusing.{none_refused}
use Rattle.handin.proofs.Taking.{take_none, take_some, narrow}
use Rattle.handin.proofs.take_line.Goals as goal

pub slice_bounds-numbers-end : goal.slice_bounds-numbers-end
slice_bounds-numbers-end c = sym (narrow c.args.s _ cc)

pub take_share-requires : goal.take_share-requires
take_share-requires c = c.numbers.auto.out ∙ narrow c.args.s _ cc

pub returns-in_err-ok_or : goal.returns-in_err-ok_or
returns-in_err-ok_or c =
    let p = err_from_is_err_and c.from_residual.result c.from_residual.ensures.1 in
    rw (p.1, p.2, none_refused _ _ _ c.in_err-ok_or.ensures.value c.in_err-ok_or.ensures.ok_part)
    (take_none c.args.s _ _ _ _ (ap (λ k. line_of 80 k c.args.line.now) (sym (narrow c.args.s _ cc)) ∙ (rw c.in_err-ok_or.ensures.ok_part at c.numbers.ensures)))

pub returns : goal.returns
returns c =
    take_some c.args.s _ _ _ _ _ _ (ap (λ k. line_of 80 k c.args.line.now) (sym (narrow c.args.s _ cc)) ∙ (rw c.in_ok-ok_or.ensures.ok_part at c.numbers.ensures))
    c.take_share.ensures
