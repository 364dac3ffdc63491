-- Laws of numerals as they are read, digit by digit.
-- Assumes nothing.
use mathlib.Core.Path.{◌≡◌, refl, sym, ap, ◌∙◌}
use mathlib.Core.Logic.{inl, inr}
use mathlib.Core.Bool.{true, false, cond, and-false}
use mathlib.Core.List.{List, [], ◌∷◌, ◌++◌}
use Prim.Native.Nat.{ℕ, ◌+◌, ◌*◌, ◌-◌, ◌^◌, ◌≤◌, ◌<◌}
use native.Mathlib.Nat.{pow-suc}
use native.Mathlib.Numerals.{add-one}
use native.Mathlib.Omega.{arith}
use borrow.Author.Tests.{eq-eqb, ne_eqb, le-leb, lt-leb, lt-ltb, ltb-true}
use lib.Dec.{leb, ltb}
use lib.ListN.{length, get_or, take, drop, take-append-drop}
use lib.Seq.{take-suc, drop-cons, take_all}
use Rattle.std.specs.Prelude.{Some, None}
use Rattle.lists.specs.Tabulate.{each}
use Rattle.lists.proofs.Bools.{and_intro, test}
use Rattle.lists.proofs.Checks.{within_low, within_high}
use Rattle.lists.proofs.StoredBlocks.{each_append}
use Rattle.text.specs.Lines.{is_digit, decimal, leads_with_zero, is_numeral}
use Rattle.text.specs.Internal.Scanning.{numeral_of}

-- the last digit counts once, and those before it ten times
pub decimal_last : (high : ℕ) (xs : List ℕ) (b : ℕ) → decimal high (xs ++ (b ∷ [])) ≡ 10 * decimal high xs + (b - 48)
unfolding decimal
decimal_last high [] b = refl
decimal_last high (x ∷ xs) b = decimal_last (10 * high + (x - 48)) xs b

-- the first i bytes are digits that stand for v
pub record Valued (field : List ℕ) (i v : ℕ) : Type 0 where
  pub inside : i ≤ length field
  pub digits : each is_digit (take i field) ≡ true
  pub value : v ≡ decimal 0 (take i field)
  pub below : v < 10 ^ i

pub valued_none : (field : List ℕ) → Valued field 0 0
unfolding each decimal
valued_none field = record { inside = omega arith; digits = refl; value = refl; below = omega arith }

-- ---- a field that is refused

pub numeral_short : (f : List ℕ) → length f < 1 → None ≡ numeral_of f
unfolding numeral_of is_numeral
numeral_short f h = rw (lt-leb 1 (length f) h)

pub numeral_long : (f : List ℕ) → 5 < length f → None ≡ numeral_of f
unfolding numeral_of is_numeral
numeral_long f h = rw (le-leb 1 (length f) (omega arith), lt-leb (length f) 5 h)

pub numeral_zero : (f : List ℕ) → 1 < length f → get_or f 0 0 ≡ 48 → None ≡ numeral_of f
unfolding numeral_of is_numeral leads_with_zero
numeral_zero f h e = rw (lt-ltb 1 (length f) h, eq-eqb (get_or f 0 0) 48 e, and-false)

not_each : (f : List ℕ) (i : ℕ) → i < length f → is_digit (get_or f i 0) ≡ false → each is_digit f ≡ false
unfolding each
not_each f i h d =
    ap (each is_digit) (sym (take-append-drop i f)) ∙ each_append is_digit (take i f) (drop i f) ∙ rw (drop-cons f i 0 h, d, and-false)

pub numeral_bad : (f : List ℕ) (i : ℕ) → i < length f → is_digit (get_or f i 0) ≡ false → None ≡ numeral_of f
unfolding numeral_of is_numeral
numeral_bad f i h d = rw (not_each f i h d, and-false)

-- for the checks as the code makes them
pub ruleset refused_fields = (numeral_short, numeral_long, numeral_zero)

-- ---- a field of digits

no_zero : (f : List ℕ) → (1 < length f → get_or f 0 0 ≡ 48 → ⊥) → leads_with_zero f ≡ false
unfolding leads_with_zero
no_zero f z = elim (test (ltb 1 (length f))) [
  | inl e ↦ rw (ne_eqb (get_or f 0 0) 48 (z (ltb-true 1 (length f) e)), and-false)
  | inr e ↦ rw e
]

module _ {field : List ℕ} {i v : ℕ} (s : Valued field i v) where
  -- one digit more
  pub valued_next : i < length field → is_digit (get_or field i 0) ≡ true
      → Valued field (i + 1) (10 * v + (get_or field i 0 - 48))
  unfolding each
  valued_next h d =
      let low = within_low 48 57 (get_or field i 0) d in
      let high = within_high 48 57 (get_or field i 0) d in
      record {
        inside = omega arith;
        digits = rw (add-one, take-suc field i 0 h, each_append) (and_intro s.digits (rw d));
        value = rw (add-one, take-suc field i 0 h, decimal_last) (omega (arith, s.value));
        below = rw (add-one, pow-suc) (omega (arith, s.below));
      }

  -- at most 5 digits

  pub valued_last : length field ≤ i → 1 ≤ length field → length field ≤ 5 → (1 < length field → get_or field 0 0 ≡ 48 → ⊥)
      → cond (leb v 65535) (Some v) None ≡ numeral_of field
  unfolding numeral_of is_numeral leads_with_zero
  valued_last l low high z =
      let all : take i field ≡ field = take_all i field l in
      let digits : each is_digit field ≡ true = rw all at s.digits in
      let value : v ≡ decimal 0 field = rw all at s.value in
      let front : leads_with_zero field ≡ false = no_zero field z in
      rw (le-leb 1 (length field) low, le-leb (length field) 5 high, digits, value, front)
