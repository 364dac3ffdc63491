-- What the program `opening` prints for a text (document 01, 'Hand-in text and the program'), as bytes.
-- Assumes nothing.
use Rattle.std.specs.Prelude.{ℕ, suc, ◌*◌, ◌≡◌, true, false, List, [], ◌∷◌, ◌++◌, eqb, length, take, drop, get_or}
use Rattle.lists.specs.Ascii.{ascii}
use Rattle.lists.specs.Tabulate.{tab, concat}
use Rattle.members.specs.Members.{size}
use Rattle.shares.specs.Layout.{width, capacity}
use Rattle.text.specs.Lines.{line}
use Rattle.reconstruction.specs.Reconstruction.{Opened, reconstruct}
use Rattle.handin.specs.Reader.{HandIn, read}

-- the line of the word at place k, counted from 0
unfoldable pub word_line : List ℕ → ℕ → List ℕ
word_line secret k = line (ascii "WORD") (suc k ∷ get_or secret k 0 ∷ [])

-- what opening's answer prints, for a secret of d words
unfoldable pub print_opened : ℕ → Opened → List ℕ
print_opened d a =
    elim (eqb a.number 0) [
      | true ↦ line (ascii "OPEN") (a.survivors ∷ a.agreeing ∷ []) ++ concat (tab d (word_line a.secret))
      | false ↦ line (ascii "REFUSED") (a.number ∷ a.survivors ∷ [])
    ]

-- what the reader's answer prints: its shares are opened for its day, or its refusal is told
unfoldable pub print_read : HandIn → List ℕ
print_read h =
    elim (eqb h.number 0) [
      | true ↦ print_opened h.d (reconstruct h.t h.d h.day h.present h.quorum (take (size h.t * width h.t h.d) h.words)).opened
      | false ↦ line (ascii "REFUSED") (h.number ∷ 0 ∷ [])
    ]

-- what the program prints for a text
unfoldable pub report : List ℕ → List ℕ
report text = print_read (read text capacity)

-- what the program prints stands at the front of the buffer, the rest of it is as before, and the answer is how many bytes are printed
pub record Reported (text before after : List ℕ) (count : ℕ) : Type 0 where
  pub printed : after ≡ report text ++ drop count before
  pub long : count ≡ length (report text)
