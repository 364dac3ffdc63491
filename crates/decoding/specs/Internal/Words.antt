-- Decoding of a word, as the code keeps it.
-- Assumes nothing.
use Rattle.std.specs.Prelude.{ℕ, Bool, ◌&&◌, List, eqb, leb, get_or}
use Rattle.std.proofs.Math.Option.{Option}
use Rattle.polynomial.specs.Polynomial.{value}
use Rattle.members.specs.Members.{size, has, card}
use Rattle.locator.specs.Internal.Pairs.{passed}
use Rattle.decoding.specs.Decoding.{need, agreeing, find}
use Rattle.decoding.specs.declared.Word.{Word}

-- the polynomial that enough members of the set agree with
abbrev pub solution : Word → Option (List (List ℕ))
solution w = find w.points.now w.t 1 (λ i k. get_or w.values.now i 0) w.set

-- 0 at every member with a wrong value, if there is such a polynomial
abbrev pub located : Word → List ℕ
located w = (passed w.points.now w.t (λ i. get_or w.values.now i 0) w.set 31 (size w.t)).e1

-- member i of the set has the value of f
abbrev pub meets_at : Word → List ℕ → ℕ → Bool
meets_at w f i = has w.set i && eqb (value f (get_or w.points.now i 0)) (get_or w.values.now i 0)

-- how many members of the set have the values of f
abbrev pub meeting : Word → List ℕ → ℕ
meeting w f = card (size w.t) (agreeing w.points.now w.t 1 (λ i k. get_or w.values.now i 0) w.set (λ k. f))

-- they are enough
abbrev pub enough_meet : Word → List ℕ → Bool
enough_meet w f = leb (need w.t (card (size w.t) w.set)) (meeting w f)
