-- A byte that is no digit refuses the field, and a field of digits stands for its value.
-- Assumes nothing.
use Rattle.std.proofs.Common.{◌≡◌, true, false, arith, rules, get_or, ◌∙◌}
use Rattle.text.specs.Lines.{is_digit}
use Rattle.text.proofs.Numerals.{numeral_bad, valued_none, valued_next, valued_last}
use Rattle.text.proofs.digits_value.Goals as goal

pub loop-b-init : goal.loop-b-init
loop-b-init c = valued_none c.args.field.now

pub returns-then-not-is_digit : goal.returns-then-not-is_digit
returns-then-not-is_digit c =
    let other : is_digit (get_or c.args.field.now c.loop-b.b-index 0) ≡ false = search rules in
    numeral_bad c.args.field.now c.loop-b.b-index (omega arith) other

pub loop-b-preserved : goal.loop-b-preserved
loop-b-preserved c =
    let digit : is_digit (get_or c.args.field.now c.loop-b.b-index 0) ≡ true = search rules in
    valued_next c.loop-b.invariant (omega arith) digit

pub returns : goal.returns
returns c = c.short.ensures ∙ valued_last c.loop-b.invariant (omega arith) c.requires.few.0 c.requires.few.1 c.requires.front
