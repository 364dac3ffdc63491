-- What a byte is.
-- Assumes nothing.
use Rattle.std.specs.Prelude.{ℕ, cond, ◌||◌, eqb}
use Rattle.text.specs.Lines.{is_digit}
use Rattle.text.specs.declared.Kind.{Kind}
use Rattle.text.specs.declared.Kind.TheVariants.{Digit, Tab, End, Letter, Other}

-- a digit, a tab, a line end, the letter D or P, or another
unfoldable pub kind_of : ℕ → Kind
kind_of b = cond (is_digit b) Digit (cond (eqb b 9) Tab (cond (eqb b 10) End (cond (eqb b 68 || eqb b 80) Letter Other)))
