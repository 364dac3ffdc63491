-- Pieces of text written one after the other: the first k of n, and at the end all.
-- Assumes nothing.
use mathlib.Core.Path.{◌≡◌, ap, ◌∙◌}
use mathlib.Core.List.{List, ◌++◌}
use Prim.Native.Nat.{ℕ, ◌+◌, ◌≤◌, ◌<◌, zero-le}
use native.Mathlib.Numerals.{add-one}
use native.Mathlib.Omega.{arith}
use lib.ListN.{length, length-append}
use Rattle.lists.specs.Tabulate.{tab, concat}
use Rattle.lists.proofs.Blocks.{concat_more, concat-le}
use Rattle.text.specs.Internal.Writing.{Written}
use Rattle.text.proofs.Writing.{written_none, written_then, written-length}

-- the first k of n pieces are written
pub record Pieces (n : ℕ) (piece : ℕ → List ℕ) (before : List ℕ) (at : ℕ) (output : List ℕ) (end k : ℕ) : Type 0 where
  pub inside : k ≤ n
  pub written : Written before at (concat (tab k piece)) output end

pub pieces_first : (n : ℕ) (piece : ℕ → List ℕ) (before : List ℕ) (at : ℕ) → at ≤ length before → Pieces n piece before at before at 0
unfolding tab concat
pieces_first n piece before at h = record { inside = zero-le; written = written_none before at h }

module _ {n : ℕ} {piece : ℕ → List ℕ} {before : List ℕ} {at : ℕ} {output : List ℕ} {end k : ℕ} (p : Pieces n piece before at output end k) where
  module _ (h : k < n) where
    one_more : concat (tab (k + 1) piece) ≡ concat (tab k piece) ++ piece k
    one_more = ap (λ (m : ℕ). concat (tab m piece)) (add-one k) ∙ concat_more k piece

    -- the next has room, if all have
    pub pieces_room : at + length (concat (tab n piece)) ≤ length before → end + length (piece k) ≤ length output
    pieces_room r =
        let more = ap length one_more ∙ length-append (concat (tab k piece)) (piece k) in
        omega (arith, r, more, concat-le (k + 1) n piece (omega arith), p.written.next, written-length p.written)

    pub pieces_next : {after : List ℕ} {next : ℕ} → Written output end (piece k) after next → Pieces n piece before at after next (k + 1)
    pieces_next w = record { inside = omega arith; written = rw one_more (written_then p.written w) }

  pub pieces_last : n ≤ k → Written before at (concat (tab n piece)) output end
  pieces_last h =
      let e : k ≡ n = omega (arith, p.inside) in
      rw e at p.written
