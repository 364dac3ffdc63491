-- The first field is the letter, and the fields after it are the numbers, one after the other; at the end none may be left.
-- Assumes nothing.
use Rattle.std.proofs.Common.{◌≡◌, ◌∷◌, List, ℕ, arith, length, ◌∙◌}
use Rattle.std.specs.Option.{option_copied}
use Rattle.text.specs.Lines.{parts}
use Rattle.text.specs.Internal.Scanning.{fields_left}
use Rattle.text.proofs.Parts.{parts_some}
use Rattle.text.proofs.FieldLaws.{fields_start, fields_few, fields_bad, fields_good, fields_end, fields_over, number_good, number_value, number_bad, left_some, left_none, line_long, line_other, line_fields}
use Rattle.text.proofs.numbers.Goals as goal

pub returns-then-head-ne1 : goal.returns-then-head-ne1
returns-then-head-ne1 c =
    line_long c.args.letter (length c.args.out.now) c.args.line.now c.first_field.result.0.now _ c.first_field.ensures c.if-head-ne1.true

pub returns-then-not-is_mark : goal.returns-then-not-is_mark
returns-then-not-is_mark c =
    line_other c.args.letter (length c.args.out.now) c.args.line.now c.first_field.result.0.now _ c.first_field.ensures c.if-head-ne1.false c.is_mark.ensures c.if-not-is_mark.true

pub loop-number-init : goal.loop-number-init
loop-number-init c =
    let (out, line, left) : List ℕ × List ℕ × List (List ℕ) = (c.args.out.now, c.args.line.now, fields_left (option_copied c.first_field.result.1)) in
    rw (line_fields c.args.letter (length out) line c.first_field.result.0.now left c.first_field.ensures c.if-head-ne1.false c.is_mark.ensures c.if-not-is_mark.false)
    (fields_start out left)

pub returns-in_err-rest : goal.returns-in_err-rest
returns-in_err-rest c = rw c.from_residual.ensures (fields_few c.loop-number.invariant (omega arith) (rw c.in_err-rest.was left_none))

pub returns-in_err-number : goal.returns-in_err-number
returns-in_err-number c =
    let next : fields_left (option_copied c.loop-number.rest) ≡ c.first_field-in-loop-number.result.0.now ∷ fields_left (option_copied c.first_field-in-loop-number.result.1) =
    rw c.in_ok-rest.was (left_some c.in_ok-rest.field-0.now ∙ c.first_field-in-loop-number.ensures) in
    rw c.from_residual-in_err-number.ensures (fields_bad c.loop-number.invariant (omega arith) _ _ next (number_bad _ c.in_err-number.ensures))

pub loop-number-preserved : goal.loop-number-preserved
loop-number-preserved c =
    let next : fields_left (option_copied c.loop-number.rest) ≡ c.first_field-in-loop-number.result.0.now ∷ fields_left (option_copied c.first_field-in-loop-number.result.1) =
    rw c.in_ok-rest.was (left_some c.in_ok-rest.field-0.now ∙ c.first_field-in-loop-number.ensures) in
    fields_good c.loop-number.invariant (omega arith) _ _ next
    c.in_ok-number.field-0 (number_good _ _ c.in_ok-number.ensures) (number_value _ _ c.in_ok-number.ensures)

pub returns-in-Some : goal.returns-in-Some
returns-in-Some c =
    let first : (p : List ℕ) × (ps : List (List ℕ)) × (parts 9 c.in-Some.field-0.now ≡ p ∷ ps) = parts_some 9 c.in-Some.field-0.now in
    fields_over c.loop-number.invariant (omega arith) first.0 first.1 (rw c.in-Some.is (left_some c.in-Some.field-0.now ∙ first.2))

pub returns-in-None : goal.returns-in-None
returns-in-None c = fields_end c.loop-number.invariant (omega arith) (rw c.in-None.is left_none)
