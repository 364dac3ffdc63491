-- What the parts of decoding come to, before a refusal fills the buffer.
-- Assumes nothing.
use Rattle.std.specs.Prelude.{◌≡◌, ℕ, suc, ◌≤◌, ◌<◌, ◌^◌, List, length, get_or, Result, Ok, Err}
use Rattle.refusals.specs.declared.Refusal.{Refusal}
use Rattle.refusals.specs.Refusals.{number}
use Rattle.members.specs.Members.{size, own_points}
use Rattle.decoding.specs.Decoding.{Decoded, find, found, undecoded, decoded_from, decode}

-- a polynomial that is found is in the buffer, and a refusal has still to fill it
abbrev pub outcome : Result (Unit {0}) Refusal → List ℕ → Decoded
outcome (Ok _) buffer = found buffer
outcome (Err refusal) buffer = undecoded (length buffer) (number refusal)

-- what is known of an input that passes all checks
pub record Accepted (t : ℕ) (values : List ℕ) (set room : ℕ) : Type 0 where
  pub small : t ≤ 15
  pub as_many : length values ≡ size t
  pub fits : room ≡ suc t
  pub proper : set < 2 ^ size t
  pub answer : decode t values set room ≡ decoded_from (suc t) (find (own_points t) t 1 (λ i k. get_or values i 0) set)

-- an input passes all checks, or decoding refuses it with the number of the first that it fails
abbrev pub Checked : ℕ → List ℕ → ℕ → ℕ → Result (Unit {0}) Refusal → Type 0
Checked t values set room (Ok _) = Accepted t values set room
Checked t values set room (Err refusal) = decode t values set room ≡ undecoded room (number refusal)
