-- A first line that is a D line hands on its four numbers and the lines after it; any other is 22.
-- Assumes nothing.
use Rattle.std.proofs.Common.{refl}
use Rattle.std.proofs.lemmas.Result.{err_from_is_err_and}
use Rattle.handin.proofs.Reading.{text_unended, text_bad, text_good}
use Rattle.handin.proofs.Refusing.{none_refused}
use Rattle.handin.proofs.read_lines.Goals as goal

pub returns-in_err-line : goal.returns-in_err-line
returns-in_err-line c =
    let p = err_from_is_err_and c.from_residual.result c.from_residual.ensures.1 in
    rw (p.1, p.2, none_refused _ _ _ c.in_err-line.ensures.value c.in_err-line.ensures.ok_part)
    (text_unended _ _ _ refl (rw c.in_err-line.ensures.ok_part at c.split_once.ensures.parts))

pub returns-in_err-ok_or : goal.returns-in_err-ok_or
returns-in_err-ok_or c =
    let p = err_from_is_err_and c.from_residual-in_err-ok_or.result c.from_residual-in_err-ok_or.ensures.1 in
    rw (p.1, p.2, none_refused _ _ _ c.in_err-ok_or.ensures.value c.in_err-ok_or.ensures.ok_part)
    (text_bad _ _ _ _ (rw c.in_ok-line.ensures.ok_part at c.split_once.ensures.parts) _ refl (rw c.in_err-ok_or.ensures.ok_part at c.numbers.ensures))

pub returns : goal.returns
returns c =
    text_good _ _ _ _ (rw c.in_ok-line.ensures.ok_part at c.split_once.ensures.parts) _ _ (rw c.in_ok-ok_or.ensures.ok_part at c.numbers.ensures) c.read_numbers.ensures
