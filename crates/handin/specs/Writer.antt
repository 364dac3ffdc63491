-- The writer of hand-in text (document 02, W-201 and W-205): the D line, then a P line for each present member by rising number.
-- Assumes nothing.
use Rattle.std.specs.Prelude.{ℕ, suc, ◌*◌, cond, List, [], ◌∷◌, ◌++◌, leb, eqb, length, drop}
use Rattle.lists.specs.Ascii.{ascii}
use Rattle.lists.specs.Tabulate.{tab, concat}
use Rattle.lists.specs.Checks.{Check, ◌unless◌, checked}
use Rattle.members.specs.Members.{is_threshold, size, has, is_set}
use Rattle.shares.specs.Layout.{is_length, is_day, width, share}
use Rattle.text.specs.Lines.{line}

-- the D line
abbrev pub first_line : ℕ → ℕ → ℕ → ℕ → List ℕ
first_line t d quorum day = line (ascii "D") (t ∷ d ∷ quorum ∷ day ∷ [])

-- member i's P line, where `words` are all shares in member order
unfoldable pub share_line : ℕ → ℕ → List ℕ → ℕ → List ℕ
share_line t d words i = line (ascii "P") (suc i ∷ share t d words i)

-- the P lines of those of the first n members that are present
unfoldable pub share_lines : ℕ → ℕ → ℕ → List ℕ → ℕ → List ℕ
share_lines t d present words n = concat (tab n (λ i. cond (has present i) (share_line t d words i) []))

-- the text
unfoldable pub text_of : ℕ → ℕ → ℕ → ℕ → ℕ → List ℕ → List ℕ
text_of t d quorum day present words = first_line t d quorum day ++ share_lines t d present words (size t)

-- what the writer answers: 0 or the refusal's number, the text's length in bytes, and the buffer at exit
pub record HandInText : Type 0 where
  pub number : ℕ
  pub count : ℕ
  pub buffer : List ℕ

-- a refusal leaves the buffer as it is, and the length is 0
unfoldable pub unwritten : List ℕ → ℕ → HandInText
unwritten buffer k = record { number = k; count = 0; buffer = buffer }

-- the text stands at the front of the buffer, and the bytes past it stay
unfoldable pub written : List ℕ → List ℕ → HandInText
written text buffer = record { number = 0; count = length text; buffer = text ++ drop (length text) buffer }

-- The checks, in their order: those of opening before the votes, but for the quorum, since any is written; and whether the text fits.
abbrev pub checks : ℕ → ℕ → ℕ → ℕ → List ℕ → List ℕ → List ℕ → List Check
checks t d day present words text buffer =
    1 unless is_threshold t
    ∷ 2 unless is_length d
    ∷ 32 unless is_day day
    ∷ 11 unless eqb (length words) (size t * width t d)
    ∷ 12 unless is_set (size t) present
    ∷ 31 unless leb (length text) (length buffer)
    ∷ []

unfoldable pub write : ℕ → ℕ → ℕ → ℕ → ℕ → List ℕ → List ℕ → HandInText
write t d quorum day present words buffer =
    let text : List ℕ = text_of t d quorum day present words in
    checked (unwritten buffer) (checks t d day present words text buffer) (written text buffer)
