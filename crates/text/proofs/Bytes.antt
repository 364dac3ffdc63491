-- Laws of kinds of bytes.
-- Assumes nothing.
use mathlib.Core.Path.{◌≡◌, refl, sym, ap, ◌∙◌}
use mathlib.Core.Logic.{◌⊎◌, inl, inr}
use mathlib.Core.Bool.{Bool, true, false, cond, ◌||◌}
use Prim.Native.Nat.{ℕ, ◌≤◌, ◌<◌}
use native.Mathlib.Omega.{arith}
use borrow.Author.Tests.{eq-eqb, eqb-true, ne_eqb, le-leb, lt-leb}
use lib.Dec.{eqb}
use Rattle.lists.proofs.Bools.{same_test}
use Rattle.text.specs.Lines.{is_digit}
use Rattle.text.specs.Internal.Kinds.{kind_of}
use Rattle.text.specs.declared.Kind.{Kind}
use Rattle.text.specs.declared.Kind.TheVariants.{Digit, Tab, End, Letter, Other}

pub kind_digit : (b : ℕ) → 48 ≤ b → b < 58 → Digit ≡ kind_of b
unfolding kind_of
kind_digit b low high = rw (le-leb 48 b low, le-leb b 57 (omega arith))

pub kind_tab : (b : ℕ) → b ≡ 9 → Tab ≡ kind_of b
unfolding kind_of
kind_tab b e = rw e

pub kind_end : (b : ℕ) → b ≡ 10 → End ≡ kind_of b
unfolding kind_of
kind_end b e = rw e

pub kind_letter : (b : ℕ) → (b ≡ 68) ⊎ (b ≡ 80) → Letter ≡ kind_of b
unfolding kind_of
kind_letter b (inl e) = rw e
kind_letter b (inr e) = rw e

-- a byte that is none of the single values is no digit below 48 or above 57
kind_other : (b : ℕ) → is_digit b ≡ false → (b ≡ 9 → ⊥) → (b ≡ 10 → ⊥) → ((b ≡ 68) ⊎ (b ≡ 80) → ⊥) → Other ≡ kind_of b
unfolding kind_of
kind_other b d n9 n10 n = rw (d, ne_eqb b 9 n9, ne_eqb b 10 n10, ne_eqb b 68 (λ e. n (inl e)), ne_eqb b 80 (λ e. n (inr e)))

pub kind_rest : (b : ℕ) → (b < 48) ⊎ (58 ≤ b) → (b ≡ 9 → ⊥) → (b ≡ 10 → ⊥) → ((b ≡ 68) ⊎ (b ≡ 80) → ⊥) → Other ≡ kind_of b
kind_rest b (inl h) n9 n10 n = kind_other b (rw (lt-leb 48 b h)) n9 n10 n
kind_rest b (inr h) n9 n10 n = kind_other b (rw (le-leb 48 b (omega arith), lt-leb b 57 (omega arith))) n9 n10 n

pub ruleset kinds = (kind_digit, kind_tab, kind_end, kind_letter, kind_rest)

-- the kind says whether it is a digit
abbrev pub is_digit_kind : Kind → Bool
is_digit_kind Digit = true
is_digit_kind Tab = false
is_digit_kind End = false
is_digit_kind Letter = false
is_digit_kind Other = false

digit_cond : (p q r s : Bool) → is_digit_kind (cond p Digit (cond q Tab (cond r End (cond s Letter Other)))) ≡ p
digit_cond true q r s = refl
digit_cond false true r s = refl
digit_cond false false true s = refl
digit_cond false false false true = refl
digit_cond false false false false = refl

pub digit_told : (k : Kind) {r : Kind} (b : ℕ) → r ≡ kind_of b → r ≡ k → is_digit_kind k ≡ is_digit b
unfolding kind_of
digit_told k b e q = ap is_digit_kind (sym q ∙ e) ∙ digit_cond (is_digit b) (eqb b 9) (eqb b 10) (eqb b 68 || eqb b 80)

-- a tab is 9, a line end is 10
byte_of : Kind → ℕ → ℕ
byte_of Digit b = b
byte_of Tab b = 9
byte_of End b = 10
byte_of Letter b = b
byte_of Other b = b

byte_cond : (p q r s : Bool) (b : ℕ) → (q ≡ true → 9 ≡ b) → (r ≡ true → 10 ≡ b)
    → byte_of (cond p Digit (cond q Tab (cond r End (cond s Letter Other)))) b ≡ b
unfolding byte_of
byte_cond true q r s b f g = refl
byte_cond false true r s b f g = f refl
byte_cond false false true s b f g = g refl
byte_cond false false false true b f g = refl
byte_cond false false false false b f g = refl

byte_kind : (b : ℕ) {k : Kind} → k ≡ kind_of b → byte_of k b ≡ b
unfolding kind_of
byte_kind b e =
    ap (λ (k : Kind). byte_of k b) e
    ∙ byte_cond (is_digit b) (eqb b 9) (eqb b 10) (eqb b 68 || eqb b 80) b (λ h. sym (eqb-true b 9 h)) (λ h. sym (eqb-true b 10 h))

eqb_sym : (a b : ℕ) → eqb a b ≡ eqb b a
eqb_sym a b = same_test (eqb a b) (eqb b a) (λ h. eq-eqb b a (sym (eqb-true a b h))) (λ h. eq-eqb a b (sym (eqb-true b a h)))

pub mark_tab : {r : Kind} (b m : ℕ) → r ≡ kind_of b → r ≡ Tab → eqb m 9 ≡ eqb b m
unfolding byte_of
mark_tab b m e q = eqb_sym m 9 ∙ ap (λ (x : ℕ). eqb x m) (byte_kind b (sym q ∙ e))

pub mark_end : {r : Kind} (b m : ℕ) → r ≡ kind_of b → r ≡ End → eqb m 10 ≡ eqb b m
unfolding byte_of
mark_end b m e q = eqb_sym m 10 ∙ ap (λ (x : ℕ). eqb x m) (byte_kind b (sym q ∙ e))
