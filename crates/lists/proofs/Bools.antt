-- Laws of tests.
-- Assumes nothing.
use mathlib.Core.Path.{◌≡◌, refl, sym, ap, ◌∙◌}
use mathlib.Core.Logic.{◌⊎◌, inl, inr}
use mathlib.Core.Bool.{Bool, true, false, ◌&&◌, ◌||◌, not, true≢false, false≢true}
use borrow.Author.Tests.{not-true, not-false}

pub and_intro : {a b : Bool} → a ≡ true → b ≡ true → a && b ≡ true
and_intro p q = rw (p, q)

pub and_left : (a b : Bool) → a && b ≡ true → a ≡ true
and_left true b h = refl
and_left false b h = h

pub and_right : (a b : Bool) → a && b ≡ true → b ≡ true
and_right true b h = h
and_right false b h = absurd (false≢true h)

-- a test passes or it fails
pub test : (b : Bool) → (b ≡ true) ⊎ (b ≡ false)
test true = inl refl
test false = inr refl

-- not both
pub clash : {b : Bool} → b ≡ true → b ≡ false → ⊥
clash p q = true≢false (sym p ∙ q)

-- a test that the code negates
pub fails : (r b : Bool) → r ≡ b → not r ≡ true → b ≡ false
fails r b e h = sym e ∙ not-true r h

pub passes : (r b : Bool) → r ≡ b → not r ≡ false → b ≡ true
passes r b e h = sym e ∙ not-false r h

-- two tests of which each passes where the other does are equal
pub same_test : (a b : Bool) → (a ≡ true → b ≡ true) → (b ≡ true → a ≡ true) → a ≡ b
same_test true b f g = sym (f refl)
same_test false true f g = g refl
same_test false false f g = refl

-- ---- two tests of which the second is known

pub or_no : (a b : Bool) → b ≡ false → a || b ≡ a
or_no true b h = refl
or_no false b h = h

pub or_yes : (a b : Bool) → b ≡ true → a || b ≡ true
or_yes true b h = refl
or_yes false b h = h

pub and_yes : (a b : Bool) → b ≡ true → a && b ≡ a
and_yes true b h = h
and_yes false b h = refl

pub and_no : (a b : Bool) → b ≡ false → a && b ≡ false
and_no true b h = h
and_no false b h = refl

pub or_left : (a b : Bool) → a ≡ true → a || b ≡ true
or_left a b h = rw h

pub or_elim : (a b : Bool) → a || b ≡ true → (a ≡ true) ⊎ (b ≡ true)
or_elim true b h = inl refl
or_elim false b h = inr h

-- nothing passes one test and fails the other, where the first brings the second with it
pub no_exception : (a b : Bool) → (a ≡ true → b ≡ true) → a && not b ≡ false
no_exception true b h = ap not (h refl)
no_exception false b h = refl
