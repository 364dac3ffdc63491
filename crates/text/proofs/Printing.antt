-- Laws of fields and lines as they are printed: how long they are, and how they are written.
-- Assumes nothing.
use mathlib.Core.Path.{◌≡◌, refl}
use mathlib.Core.List.{List, [], ◌∷◌, ◌++◌, map, append_assoc, append-nil}
use Prim.Native.Nat.{ℕ, suc, ◌+◌, ◌*◌, ◌^◌, ◌≤◌, ◌<◌}
use native.Mathlib.Nat.{mul-suc}
use native.Mathlib.Omega.{arith}
use lib.ListN.{length, length-append}
use Rattle.lists.specs.Tabulate.{concat}
use Rattle.lists.proofs.Every.{Every, none, more}
use Rattle.text.specs.Lines.{digits, field, line}
use Rattle.text.specs.Internal.Writing.{Written}
use Rattle.text.proofs.Digits.{digits_most, at_most_ten}
use Rattle.text.proofs.Writing.{written_then}

pub length-field : (n : ℕ) → length (field n) ≡ suc (length (digits 10 n))
unfolding field
length-field n = refl

-- a number below 10 to the power k + 1
pub field_most : (k n : ℕ) → n < 10 ^ suc k → length (field n) ≤ k + 2
field_most k n h = omega (arith, length-field n, digits_most k 10 n h)

-- fields of such numbers
pub fields_most : (k : ℕ) (ns : List ℕ) → Every (λ n. n < 10 ^ suc k) ns → length (concat (map field ns)) ≤ (k + 2) * length ns
unfolding concat
fields_most k [] none = omega arith
fields_most k (n ∷ ns) (more h e) =
    omega (arith, length-append (field n) (concat (map field ns)), field_most k n h, fields_most k ns e, mul-suc (k + 2) (length ns))

-- any number
pub field_short : (n : ℕ) → n < 4294967296 → length (field n) ≤ 11
field_short n h = omega (arith, length-field n, at_most_ten n h)

-- a line of any numbers
pub length_list : (word ns : List ℕ) → length (line word ns) ≡ length word + length (concat (map field ns)) + 1
unfolding line
length_list word ns = simp length-append

-- its first number apart
pub length_from : (word : List ℕ) (n : ℕ) (ns : List ℕ)
    → length (line word (n ∷ ns)) ≡ length word + length (field n) + length (concat (map field ns)) + 1
unfolding concat
length_from word n ns = omega (arith, length_list word (n ∷ ns), length-append (field n) (concat (map field ns)))

pub length-line : (word : List ℕ) (a b : ℕ) → length (line word (a ∷ b ∷ [])) ≡ length word + length (field a) + length (field b) + 1
unfolding concat
length-line word a b = omega (arith, length_from word a (b ∷ []), length-append (field b) [])

pub ruleset lengths = (length-field, length_from)

-- a line is written by its word, and then the fields of its numbers and its byte 10
pub written_numbers : {l m r word : List ℕ} {at middle end : ℕ} (ns : List ℕ)
    → Written l at word m middle → Written m middle (concat (map field ns) ++ 10 ∷ []) r end → Written l at (line word ns) r end
unfolding line
written_numbers {word = word} ns p q = rw append_assoc (written_then p q)

-- the field of its first number apart
pub written_list : {l m₁ m₂ r word : List ℕ} {at e₁ e₂ end : ℕ} (n : ℕ) (ns : List ℕ)
    → Written l at word m₁ e₁ → Written m₁ e₁ (field n) m₂ e₂ → Written m₂ e₂ (concat (map field ns) ++ 10 ∷ []) r end
    → Written l at (line word (n ∷ ns)) r end
unfolding concat
written_list n ns p q r = written_numbers (n ∷ ns) p (rw append_assoc (written_then q r))

-- those of two numbers
pub written-line : {l m₁ m₂ m₃ r word : List ℕ} {at e₁ e₂ e₃ end : ℕ} (a b : ℕ)
    → Written l at word m₁ e₁ → Written m₁ e₁ (field a) m₂ e₂ → Written m₂ e₂ (field b) m₃ e₃ → Written m₃ e₃ (10 ∷ []) r end
    → Written l at (line word (a ∷ b ∷ [])) r end
unfolding concat
written-line a b p q r s = written_list a (b ∷ []) p q (rw append-nil (written_then r s))
