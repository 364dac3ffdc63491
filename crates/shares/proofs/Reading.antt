-- What stands at a place of a station's shares, as the code reads it there.
-- Assumes nothing.
use mathlib.Core.Path.{◌≡◌, sym, ap, ◌∙◌}
use mathlib.Core.List.{List}
use Prim.Native.Nat.{ℕ, ◌+◌, ◌-◌, ◌*◌, ◌≤◌, ◌<◌}
use native.Mathlib.Omega.{arith}
use lib.ListN.{length, get_or, take, drop, length-drop}
use lib.Seq.{ext_get_or, get_or-take, get_or-drop, length-take-le}
use Rattle.lists.specs.Tabulate.{tab}
use Rattle.lists.proofs.Blocks.{every_get_or}
use Rattle.lists.proofs.Every.{Every}
use Rattle.lists.proofs.Tabulate.{length-tab, get_or-tab}
use Rattle.shares.specs.Layout.{word}
use Rattle.shares.specs.declared.Shape.{Shape}
use Rattle.shares.proofs.Shapes.{share_inside}

-- a part from p to its end, as the code lends it
pub lent : {A : Type 0} (p m : ℕ) (l : List A) → take (p + m - p) (drop p l) ≡ take m (drop p l)
lent p m l = ap (λ (n : ℕ). take n (drop p l)) {x = p + m - p} {y = m} (omega arith)

-- what holds of every word, and of 0, holds at every place
pub word_every : {P : ℕ → Type 0} {words : List ℕ} (t d i k : ℕ) → P 0 → Every P words → P (word t d words i k)
unfolding word
word_every t d i k z h = every_get_or h 0 z _

-- the words of a whole share
pub share_at : (s : Shape) (words : List ℕ) → length words ≡ s.n * s.width → (i : ℕ) → i < s.n → take s.width (drop (i * s.width) words) ≡ tab s.width (word s.t s.d words i)
unfolding word
share_at s words long i h =
    let fits : s.width ≤ length (drop (i * s.width) words) = simp length-drop (omega (arith, long, share_inside s i h)) in
    ext_get_or 0 (take s.width (drop (i * s.width) words)) (tab s.width (word s.t s.d words i))
    (length-take-le s.width (drop (i * s.width) words) fits ∙ sym (length-tab s.width (word s.t s.d words i)))
    (λ k g.
    let k_in : k < s.width = omega (arith, g, length-take-le s.width (drop (i * s.width) words) fits) in
    get_or-take s.width (drop (i * s.width) words) k 0 k_in
    ∙ get_or-drop (i * s.width) words k 0
    ∙ ap (λ (w : ℕ). get_or words (i * w + k) 0) s.share
    ∙ sym (get_or-tab s.width (word s.t s.d words i) k 0 k_in))
