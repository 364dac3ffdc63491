-- Bytes written into a buffer at a place.
-- Assumes nothing.
use Rattle.std.specs.Prelude.{ℕ, ◌+◌, ◌≤◌, ◌≡◌, List, length}
use Rattle.std.proofs.lemmas.List.Edits.{sets}

-- the buffer has the bytes at a place and is as long as before, they fit, and the place after them is the answer
pub record Written (before : List ℕ) (at : ℕ) (bytes after : List ℕ) (end : ℕ) : Type 0 where
  pub stored : after ≡ sets before at bytes
  pub next : end ≡ at + length bytes
  pub fits : end ≤ length before
  pub long : length after ≡ length before
