-- A single digit is one byte. While a digit is left to store, the next is stored before those stored already; at the end none is left.
-- Assumes nothing.
use Rattle.std.proofs.Common.{arith, ℕ, List, sym, subst}
use Rattle.text.specs.Internal.Writing.{Written}
use Rattle.text.proofs.Digits.{digits-one, has_digit, storing_first, storing_next, storing_last}
use Rattle.text.proofs.Writing.{written_at}
use Rattle.text.proofs.Output.put_digits.Goals as goal

pub put_byte-requires : goal.put_byte-requires
put_byte-requires c = omega (arith, c.requires, has_digit c.args.n (omega arith))

pub returns-then-n-lt10-clause-written : goal.returns-then-n-lt10-clause-written
returns-then-n-lt10-clause-written c =
    subst (λ (digits : List ℕ). Written c.args.self.now.bytes.now c.args.self.now.end digits c.put_byte.new.self.bytes.now c.put_byte.new.self.end)
    (sym (digits-one c.args.n c.if-n-lt10.true)) c.put_byte.ensures.written

pub loop-i-init : goal.loop-i-init
loop-i-init c = storing_first _ _ _ _ (omega arith) (omega arith) (omega arith)

pub loop-i-preserved : goal.loop-i-preserved
loop-i-preserved c = storing_next c.loop-i.invariant (omega arith)

pub returns-clause-written : goal.returns-clause-written
returns-clause-written c = written_at _ _ _ _ _ (storing_last c.loop-i.invariant (omega arith)) (omega arith) (omega arith)
