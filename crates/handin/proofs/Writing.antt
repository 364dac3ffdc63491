-- Laws of the lines that the writer counts and writes, member after member.
-- Assumes nothing.
use Rattle.std.proofs.Common.{◌≡◌, refl, ap, ◌∙◌, ℕ, suc, ◌+◌, ◌≤◌, Bool, true, cond, List, [], ◌∷◌, ◌++◌, map, length, arith, add-one, length-append}
use Rattle.lists.specs.Ascii.{ascii}
use Rattle.lists.specs.Tabulate.{tab, concat}
use Rattle.lists.proofs.Blocks.{concat_more}
use Rattle.members.specs.Members.{has}
use Rattle.shares.specs.Layout.{share}
use Rattle.text.specs.Lines.{field, line}
use Rattle.text.specs.Internal.Writing.{Written}
use Rattle.text.proofs.Printing.{length_from}
use Rattle.text.proofs.Writing.{written_as}
use Rattle.handin.specs.Writer.{share_line, share_lines}

-- ---- one member

module _ (t d : ℕ) (words : List ℕ) (i : ℕ) (b : Bool) where
  -- its line, if it is present
  abbrev line_if : List ℕ
  line_if = cond b (share_line t d words i) []

  -- a present member's line as the code has it
  module _ (own : List ℕ) (e : own ≡ share t d words i) (h : b ≡ true) where
    present_line : line (80 ∷ []) ((i + 1) ∷ own) ≡ line_if
    unfolding share_line ascii
    present_line = rw (h, e, add-one)

    pub present_length : {r : ℕ} → r ≡ length (line (80 ∷ []) ((i + 1) ∷ own)) → r ≡ length line_if
    present_length q = q ∙ ap length present_line

    pub present_room : (end len : ℕ) → end + length line_if ≤ len → end + 1 + length (field (i + 1)) + length (concat (map field own)) + 1 ≤ len
    present_room end len r = omega (arith, r, ap length present_line, length_from (80 ∷ []) (i + 1) own)

    pub present_written : {l m : List ℕ} {end next : ℕ} → Written l end (line (80 ∷ []) ((i + 1) ∷ own)) m next → Written l end line_if m next
    present_written w = written_as present_line w

-- ---- member after member

module _ (t d present : ℕ) (words : List ℕ) where
  abbrev pub member_line : ℕ → List ℕ
  member_line i = cond (has present i) (share_line t d words i) []

  pub no_lines : share_lines t d present words 0 ≡ []
  unfolding share_lines tab concat
  no_lines = refl

  pub lines_more : (i : ℕ) → share_lines t d present words (suc i) ≡ share_lines t d present words i ++ member_line i
  unfolding share_lines
  lines_more i = concat_more i member_line

  pub length_more : (i : ℕ) → length (share_lines t d present words (suc i)) ≡ length (share_lines t d present words i) + length (member_line i)
  length_more i = ap length (lines_more i) ∙ length-append (share_lines t d present words i) (member_line i)
