-- Laws of a list of fields as it is printed, one after the other.
-- Assumes nothing.
use mathlib.Core.Path.{◌≡◌, refl, sym, ap, ◌∙◌}
use mathlib.Core.List.{List, map}
use Prim.Native.Nat.{ℕ, suc, ◌+◌}
use native.Mathlib.Numerals.{add-one}
use lib.ListN.{length, get_or, length-append}
use Rattle.lists.specs.Tabulate.{tab, concat}
use Rattle.lists.proofs.Blocks.{concat_more}
use Rattle.lists.proofs.Tabulate.{map-tab, tab-get_or}
use Rattle.text.specs.Lines.{digits, field}
use Rattle.text.proofs.Printing.{length-field}

-- the field of the number at place k
abbrev pub field_at : List ℕ → ℕ → List ℕ
field_at ns k = field (get_or ns k 0)

-- the fields are pieces
pub fields_pieces : (ns : List ℕ) → concat (tab (length ns) (field_at ns)) ≡ concat (map field ns)
fields_pieces ns = ap concat (sym (map-tab field (length ns) (λ k. get_or ns k 0)) ∙ ap (map field) (tab-get_or ns 0))

pub fields_length : (ns : List ℕ) → length (concat (tab (length ns) (field_at ns))) ≡ length (concat (map field ns))
fields_length ns = ap length (fields_pieces ns)

-- the fields counted, by pieces
pub count_none : (ns : List ℕ) → length (concat (tab 0 (field_at ns))) ≡ 0
unfolding tab concat
count_none ns = refl

pub count_next : (ns : List ℕ) (i : ℕ)
    → length (concat (tab (i + 1) (field_at ns))) ≡ length (concat (tab i (field_at ns))) + suc (length (digits 10 (get_or ns i 0)))
count_next ns i =
    ap (λ (m : ℕ). length (concat (tab m (field_at ns)))) (add-one i)
    ∙ ap length (concat_more i (field_at ns))
    ∙ length-append (concat (tab i (field_at ns))) (field_at ns i)
    ∙ ap (λ (m : ℕ). length (concat (tab i (field_at ns))) + m) (length-field (get_or ns i 0))

pub count_last : (ns : List ℕ) (i : ℕ) → length ns ≡ i → length (concat (tab i (field_at ns))) ≡ length (concat (map field ns))
count_last ns i e = ap (λ (m : ℕ). length (concat (tab m (field_at ns)))) (sym e) ∙ fields_length ns

-- for a loop that counts the bytes of fields
pub ruleset counting = (count_none, count_next, count_last)
