-- How long the text is: at most 29368 bytes.
-- Assumes nothing.
use mathlib.Core.Path.{◌≡◌}
use mathlib.Core.Logic.{inl, inr}
use mathlib.Core.Bool.{Bool, true, false, cond}
use mathlib.Core.List.{List, [], ◌∷◌, map}
use Prim.Native.Nat.{ℕ, zero, suc, ◌+◌, ◌-◌, ◌*◌, ◌≤◌, ◌<◌}
use native.Mathlib.Omega.{arith}
use borrow.Author.Tests.{ltb-true, ltb-false}
use lib.Dec.{ltb}
use lib.ListN.{length, get_or, length-append}
use Rattle.lists.specs.Ascii.{ascii}
use Rattle.lists.specs.Tabulate.{tab, concat}
use Rattle.lists.proofs.Blocks.{every_tab}
use Rattle.lists.proofs.Bools.{test}
use Rattle.lists.proofs.Every.{Every, every_map}
use Rattle.lists.proofs.Tabulate.{length-tab}
use Rattle.members.specs.Members.{size, has}
use Rattle.shares.specs.Layout.{width, word, share}
use Rattle.shares.specs.Internal.Shape.{InRange}
use Rattle.shares.specs.declared.Shape.{Shape}
use Rattle.shares.proofs.Shapes.{station}
use Rattle.text.specs.Lines.{field, line}
use Rattle.text.proofs.Printing.{field_most, fields_most, length_list}
use Rattle.handin.specs.Writer.{first_line, share_line, share_lines, text_of}
use Rattle.handin.proofs.WriterChecks.{text_length}
use Rattle.handin.proofs.Writing.{length_more}

-- few members, and few words
pub few : (t d : ℕ) → InRange t d → size t ≤ 31
unfolding size
few t d range = omega (arith, range.t_high)

narrow : (t d : ℕ) → InRange t d → width t d ≤ 157
unfolding width size
narrow t d range = omega (arith, range.t_high, range.d_high)

-- one line more, where there are n
lines_step : (n had line all : ℕ) → all ≡ had + line → had ≤ 946 * n + (n - 9) → line + (n - 9) ≤ 946 + (suc n - 9) → all ≤ 946 * suc n + (suc n - 9)
lines_step n had line all e h l = omega arith

-- the fields of a D line
length_four : (a b c e : ℕ) → length (concat (map field (a ∷ b ∷ c ∷ e ∷ []))) ≡ length (field a) + length (field b) + length (field c) + length (field e)
unfolding concat
length_four a b c e = simp length-append (omega arith)

module _ (t d : ℕ) (range : InRange t d) (words : List ℕ) (small : (k : ℕ) → get_or words k 0 < 65536) where
  pub share_small : (i : ℕ) → Every (λ n. n < 65536) (share t d words i)
  unfolding word
  share_small i = every_tab (width t d) (word t d words i) (λ k h. small (i * width t d + k))

  -- a share's numerals, with a tab before each
  share_short : (i : ℕ) → length (concat (map field (share t d words i))) ≤ 942
  share_short i =
      let most = fields_most 4 (share t d words i) (every_map (λ n h. omega (arith, h)) (share_small i)) in
      let long : length (share t d words i) ≡ width t d = length-tab (width t d) (word t d words i) in
      let slim : width t d ≤ 157 = narrow t d range in
      omega (arith, most, long, slim)

  -- a P line by its member's number
  line_by : (i : ℕ) → length (share_line t d words i) ≤ 944 + length (field (suc i))
  unfolding share_line ascii concat
  line_by i =
      let whole = length_list (ascii "P") (suc i ∷ share t d words i) in
      let split = length-append (field (suc i)) (concat (map field (share t d words i))) in
      omega (arith, whole, split, share_short i)

  line_low : (i : ℕ) → i < 9 → length (share_line t d words i) ≤ 946
  line_low i h = omega (arith, line_by i, field_most 0 (suc i) (omega arith))

  share-line_short : (i : ℕ) → i < 31 → length (share_line t d words i) ≤ 947
  share-line_short i h = omega (arith, line_by i, field_most 1 (suc i) (omega arith))

  module _ (present : ℕ) where
    -- one more member's line, or none
    line_most : (i : ℕ) (b : Bool) → i < 31 → length (cond b (share_line t d words i) []) + (i - 9) ≤ 946 + (suc i - 9)
    line_most i false h = omega arith
    line_most i true h = elim (test (ltb i 9)) [
      | inl e ↦ omega (arith, line_low i (ltb-true i 9 e))
      | inr e ↦ omega (arith, share-line_short i h, ltb-false i 9 e)
    ]

    -- the first nine members have numbers of one digit
    pub lines_most : (n : ℕ) → n ≤ 31 → length (share_lines t d present words n) ≤ 946 * n + (n - 9)
    unfolding share_lines tab concat
    lines_most zero h = omega arith
    lines_most (suc n) h =
        lines_step n (length (share_lines t d present words n)) (length (cond (has present n) (share_line t d words n) []))
        (length (share_lines t d present words (suc n))) (length_more t d present words n) (lines_most n (omega (arith, h))) (line_most n (has present n) h)

    -- the whole text
    pub text_short : (quorum : ℕ) → quorum < 65536 → (day : ℕ) → day < 65536 → length (text_of t d quorum day present words) ≤ 29368
    unfolding text_of ascii
    text_short quorum h day g =
        let ns : List ℕ = t ∷ d ∷ quorum ∷ day ∷ [] in
        let at_most : size t ≤ 31 = few t d range in
        omega (
          arith,
          length-append (line (ascii "D") ns) (share_lines t d present words (size t)),
          length_list (ascii "D") ns,
          length_four t d quorum day,
          field_most 1 t (omega (arith, range.t_high)),
          field_most 1 d (omega (arith, range.d_high)),
          field_most 4 quorum (omega (arith, h)),
          field_most 4 day (omega (arith, g)),
          lines_most (size t) at_most,
          at_most,
        )

-- ---- sums of lengths, as the code makes them

module _ (s : Shape) (words : List ℕ) (small : (k : ℕ) → get_or words k 0 < 65536) (present : ℕ) where
  pub lines_fit : (count i k : ℕ) → i < s.n → count ≡ length (share_lines s.t s.d present words i)
      → k ≡ length (cond (has present i) (share_line s.t s.d words i) []) → count + k ≤ 29357
  lines_fit count i k h c e =
      let at_most = (station s).few in
      omega (
        arith,
        at_most,
        h,
        c,
        e,
        length_more s.t s.d present words i,
        lines_most s.t s.d (station s).range words small present (suc i) (omega (arith, at_most, h)),
      )

  pub text_fits : (quorum : ℕ) → quorum < 65536 → (day : ℕ) → day < 65536 → (a b : ℕ) → a ≡ length (first_line s.t s.d quorum day)
      → b ≡ length (share_lines s.t s.d present words s.n) → a + b ≤ 29368
  text_fits quorum low day small_day a b ea eb =
      omega (
        arith,
        text_length s quorum day present words a b ea eb,
        text_short s.t s.d (station s).range words small present quorum low day small_day,
      )
