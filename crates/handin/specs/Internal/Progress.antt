-- How far the reader has come: the shares taken so far, as the present mask and the buffer have them.
-- Assumes nothing.
use Rattle.std.specs.Prelude.{ℕ, ◌≡◌, List, length, replicate, Result, Ok, Err}
use Rattle.refusals.specs.declared.Refusal.{Refusal}
use Rattle.refusals.specs.Refusals.{number}
use Rattle.members.specs.Members.{size, set_of}
use Rattle.shares.specs.Layout.{width}
use Rattle.handin.specs.Reader.{Share, share_of, is_some, words_or, Taken, shares, refused, placed}
use Rattle.handin.specs.declared.HandIn.{HandIn}

-- the mask and the buffer are those of the shares taken
pub record Holds (t d : ℕ) (taken : List Share) (present : ℕ) (words : List ℕ) : Type 0 where
  pub members : present ≡ set_of (size t) (λ i. is_some (share_of taken i))
  pub stored : words ≡ placed t d taken
  pub wide : (i : ℕ) → length (words_or (replicate (width t d) 0) (share_of taken i)) ≡ width t d

-- what lines come to, as the code has it: the mask and the buffer of the shares taken, or a refusal
unfoldable pub Comes : ℕ → ℕ → Taken → Result ℕ Refusal → List ℕ → Type 0
Comes t d result (Ok present) words = (now : List Share) × (result ≡ shares now) × Holds t d now present words
Comes t d result (Err refusal) words = result ≡ refused (number refusal)

-- the buffer, filled with 0 on a refusal
unfoldable pub cleared : Result HandIn Refusal → List ℕ → List ℕ
cleared (Ok given) words = words
cleared (Err refusal) words = replicate (length words) 0
