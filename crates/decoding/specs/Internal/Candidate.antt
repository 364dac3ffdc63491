-- The members that a locator e leaves, and the polynomial through the first t + 1 of them.
-- Assumes nothing.
use Rattle.std.specs.Prelude.{◌≡◌, ℕ, suc, ◌≤◌, ◌<◌, Bool, ◌&&◌, not, List, map, eqb, get_or, take, Option, Some, None}
use Rattle.std.proofs.Math.Option.{none}
use Rattle.lists.specs.Tabulate.{tab, count, keep}
use Rattle.polynomial.specs.Polynomial.{value, interpolate}
use Rattle.members.specs.Members.{size, has}
use Rattle.decoding.specs.Decoding.{found, decoded_from}
use Rattle.decoding.specs.declared.Word.{Word}
use Rattle.decoding.specs.Internal.Words.{solution, located}

-- a member of the set at whose point e is not 0: its value is right if any polynomial fits
unfoldable pub sound : List ℕ → ℕ → List ℕ → ℕ → Bool
sound xs set e i = has set i && not (eqb (value e (get_or xs i 0)) 0)

-- the first t + 1 of these
unfoldable pub chosen : List ℕ → ℕ → ℕ → List ℕ → List ℕ
chosen xs t set e = take (suc t) (keep (sound xs set e) (tab (size t) (λ i. i)))

-- the polynomial through them
unfoldable pub candidate : List ℕ → ℕ → (ℕ → ℕ) → ℕ → List ℕ → List ℕ
candidate xs t y set e = interpolate (map (λ i. get_or xs i 0) (chosen xs t set e)) (map y (chosen xs t set e))

-- all t + 1 of them are at hand with their points and values
pub record AtHand (w : Word) (e points kept : List ℕ) : Type 0 where
  pub enough : suc w.t ≤ count (size w.t) (sound w.points.now w.set e)
  pub points_are : take (suc w.t) points ≡ map (λ i. get_or w.points.now i 0) (chosen w.points.now w.t w.set e)
  pub values_are : kept ≡ map (λ i. get_or w.values.now i 0) (chosen w.points.now w.t w.set e)

-- they are at hand; None: there are not so many
abbrev pub Gathered : Word → List ℕ → List ℕ → List ℕ → Option (Unit {0}) → Type 0
Gathered w e points kept (Some _) = AtHand w e points kept
Gathered w e points kept None = count (size w.t) (sound w.points.now w.set e) < suc w.t

-- The polynomial through the first t + 1 members of the set at which e is not 0 was tried. If it is right, decoding answers it; None: if e is the located
-- one, no polynomial fits.
abbrev pub Tried : Word → List ℕ → List ℕ → Option (Unit {0}) → Type 0
Tried w e g (Some _) = found g ≡ decoded_from (suc w.t) (solution w)
Tried w e g None = e ≡ located w → solution w ≡ none
