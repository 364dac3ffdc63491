-- Laws of the table's lines: a line as the code writes it, its room, and the table in a buffer that it fills.
-- Assumes nothing.
use mathlib.Core.Path.{◌≡◌, ap, ap₂, ◌∙◌}
use mathlib.Core.List.{List, [], ◌∷◌, ◌++◌, map, append-nil}
use Prim.Native.Nat.{ℕ, suc, ◌+◌, ◌-◌, ◌≤◌}
use native.Mathlib.Numerals.{add-one}
use native.Mathlib.Omega.{arith}
use lib.ListN.{length, drop, drop_of_length-le}
use Rattle.lists.specs.Tabulate.{tab, concat}
use Rattle.members.specs.Members.{size}
use Rattle.parity.specs.Parity.{weight}
use Rattle.text.specs.Lines.{digits, field, line}
use Rattle.text.specs.Internal.Writing.{Written}
use Rattle.text.proofs.Printing.{length_list}
use Rattle.text.proofs.Writing.{written_as, written_front}
use Rattle.weights.specs.WeightTable.{weight_line, member_lines, table}
use Rattle.weights.proofs.Examples.{examples}

module _ (t n i w : ℕ) (en : n ≡ size t) (e : w ≡ weight (size t) i) where
  -- the line of member i, as the code writes it
  as_written : line (digits 10 n) ((i + 1) ∷ w ∷ []) ≡ weight_line (size t) i
  unfolding weight_line
  as_written = ap (λ (k : ℕ). line (digits 10 k) ((i + 1) ∷ w ∷ [])) en ∙ ap₂ (λ (m x : ℕ). line (digits 10 (size t)) (m ∷ x ∷ [])) (add-one i) e

  pub line_room : (at room : ℕ) → at + length (weight_line (size t) i) ≤ room
      → at + length (digits 10 n) + length (concat (map field ((i + 1) ∷ w ∷ []))) + 1 ≤ room
  line_room at room r = omega (arith, r, ap length as_written, length_list (digits 10 n) ((i + 1) ∷ w ∷ []))

  pub line-written : {before after : List ℕ} {at end : ℕ} → Written before at (line (digits 10 n) ((i + 1) ∷ w ∷ [])) after end
      → Written before at (weight_line (size t) i) after end
  line-written p = written_as as_written p

-- the lines of the next n, as the code counts it
pub next_lines : (t : ℕ) → 1 ≤ t → member_lines (size (suc (t - 1))) ≡ member_lines (size t)
next_lines t low = ap (λ (k : ℕ). member_lines (size k)) (omega arith)

-- the whole table has as many bytes as the buffer
pub table_long : length (concat (tab 15 (λ k. member_lines (size (suc k))))) ≡ 2858
unfolding table
table_long = examples.long

-- so what is written from the front on is all that it holds
pub fills : {before output : List ℕ} {end : ℕ} → length before ≡ 2858 → Written before 0 table output end → output ≡ table
fills {before} {end = end} long w =
    let none_left : drop end before ≡ [] = drop_of_length-le before {i = end} (omega (arith, long, w.next, examples.long)) in
    written_front w ∙ ap (λ (rest : List ℕ). table ++ rest) none_left ∙ append-nil table
