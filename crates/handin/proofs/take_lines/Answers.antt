-- A line that is refused ends the reading; at the end the shares taken are the answer.
-- Assumes nothing.
use Rattle.std.proofs.Common.{◌≡◌, ◌<◌, length, arith, rules}
use Rattle.std.proofs.lemmas.Bool.Decides.{nat_tests}
use Rattle.std.proofs.lemmas.Result.{err_from_is_err_and}
use Rattle.handin.proofs.Reaching.{reached_start, reached_end, reached_unended, reached_refused, reached_next}
use Rattle.handin.proofs.Refusing.{none_refused}
use Rattle.handin.proofs.take_lines.Goals as goal

pub loop-rest-init : goal.loop-rest-init
loop-rest-init c = reached_start c.args.s _ _ (search rules) (search rules)

pub returns-in_err-line : goal.returns-in_err-line
returns-in_err-line c =
    let some_left : 0 < length c.loop-rest.rest.now = grind (arith, nat_tests) in
    let p = err_from_is_err_and c.from_residual.result c.from_residual.ensures.1 in
    rw (p.1, p.2, none_refused _ _ _ c.in_err-line.ensures.value c.in_err-line.ensures.ok_part)
    (reached_unended c.loop-rest.invariant some_left (rw c.in_err-line.ensures.ok_part at c.split_once.ensures.parts) _)

pub returns-in_err-present : goal.returns-in_err-present
returns-in_err-present c =
    let p = err_from_is_err_and c.from_residual-in_err-present.result c.from_residual-in_err-present.ensures.1 in
    rw (p.1, p.2)
    (reached_refused c.loop-rest.invariant _ _ _ (rw c.in_ok-line.ensures.ok_part at c.split_once.ensures.parts) _ c.take_line.ensures _ c.in_err-present.was)

pub loop-rest-preserved : goal.loop-rest-preserved
loop-rest-preserved c =
    reached_next c.loop-rest.invariant _ _ _ (rw c.in_ok-line.ensures.ok_part at c.split_once.ensures.parts) _ c.take_line.ensures _ c.in_ok-present.was

pub returns : goal.returns
returns c =
    let none_left : length c.loop-rest.rest.now ≡ 0 = grind (arith, nat_tests) in
    reached_end c.loop-rest.invariant none_left
