-- Laws of the lines that are printed: how long they are, and a secret's word as the code writes it.
-- Assumes nothing.
use mathlib.Core.Path.{◌≡◌, ap}
use mathlib.Core.List.{List, [], ◌∷◌}
use Prim.Native.Nat.{ℕ, zero, suc, ◌+◌, ◌*◌, ◌≤◌, ◌<◌, zero-le}
use native.Mathlib.Numerals.{add-one}
use native.Mathlib.Omega.{arith}
use lib.ListN.{length, get_or, length-append}
use Rattle.lists.specs.Ascii.{ascii}
use Rattle.lists.specs.Tabulate.{tab, concat}
use Rattle.lists.proofs.Blocks.{concat_more}
use Rattle.text.specs.Lines.{field, line}
use Rattle.text.specs.Internal.Writing.{Written}
use Rattle.text.proofs.Printing.{length-line, field_most, field_short}
use Rattle.text.proofs.Writing.{written_front, written_count}
use Rattle.std.proofs.lemmas.List.{length-take-le}
use Rattle.report.specs.Report.{word_line, report, Reported}

-- a place has at most 2 digits
pub place_short : (place : ℕ) → place ≤ 64 → length (field place) ≤ 3
place_short place h = field_most 1 place (omega arith)

-- a word has at most 5
pub word_short : (word : ℕ) → word < 65536 → length (field word) ≤ 6
word_short word h = field_most 4 word (omega arith)

-- any number has at most 10 digits
pub open_short : {l m : List ℕ} {at end a b : ℕ} → Written l at (line (ascii "OPEN") (a ∷ b ∷ [])) m end → a < 4294967296 → b < 4294967296 → end ≤ at + 27
unfolding ascii
open_short {a = a} {b = b} w p q = omega (arith, w.next, length-line (ascii "OPEN") a b, field_short a p, field_short b q)

-- the line of the word at place k, as the code writes it
pub word-line : (secret : List ℕ) (k : ℕ) → line (ascii "WORD") ((k + 1) ∷ get_or secret k 0 ∷ []) ≡ word_line secret k
unfolding word_line
word-line secret k = ap (λ (m : ℕ). line (ascii "WORD") (m ∷ get_or secret k 0 ∷ [])) (add-one k)

module _ (secret : List ℕ) (small : (k : ℕ) → get_or secret k 0 < 65536) where
  line_short : (k : ℕ) → k < 64 → length (word_line secret k) ≤ 14
  unfolding ascii word_line
  line_short k h =
      omega (arith, length-line (ascii "WORD") (suc k) (get_or secret k 0), place_short (suc k) (omega arith), word_short (get_or secret k 0) (small k))

  -- so the lines of the first k words have at most 14 bytes each
  pub words_short : (k : ℕ) → k ≤ 64 → length (concat (tab k (word_line secret))) ≤ 14 * k
  unfolding tab concat
  words_short zero h = zero-le
  words_short (suc k) h =
      rw (concat_more k (word_line secret)) (simp length-append (omega (arith, words_short k (omega arith), line_short k (omega arith))))

-- what is written from the front on is what is printed
pub reported : {text before l m : List ℕ} {at end count : ℕ} → Written l at (report text) m end → l ≡ before → at ≡ 0 → count ≡ end → Reported text before m count
reported {text} {m = m} {end = end} w same front e =
    let w : Written _ 0 (report text) m end = rw (same, front) at w in
    rw e (record { printed = written_front w; long = written_count w })

-- what is printed is in the buffer
pub reported_inside : {text before after : List ℕ} {count : ℕ} → Reported text before after count → count ≤ length after
reported_inside r = omega (arith, r.long, simp length-append at (ap length r.printed))

-- how long what is printed can be
pub ruleset lengths = (place_short, word_short, field_short, open_short, length-take-le)
