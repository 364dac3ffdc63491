-- Laws of the parts of bytes: the first part by itself, and the parts after it.
-- Assumes nothing.
use mathlib.Core.Path.{◌≡◌, refl}
use mathlib.Core.Logic.{inl, inr}
use mathlib.Core.Bool.{Bool, true, false, not}
use mathlib.Core.List.{List, [], ◌∷◌, ◌++◌}
use Prim.Native.Nat.{ℕ, zero, suc, ◌+◌, ◌<◌, zero-le, suc-le-suc}
use native.Mathlib.Nat.{not-suc-le-zero, le_of_suc-le-suc}
use native.Mathlib.Numerals.{add-one}
use borrow.Author.Tests.{eq-eqb, ne_eqb, not-true}
use lib.Dec.{eqb}
use lib.ListN.{length, get_or, take, drop}
use Rattle.lists.specs.Tabulate.{each}
use Rattle.lists.proofs.Bools.{and_left, and_right, test}
use Rattle.text.specs.Lines.{before, parts}

-- no byte is the separator
unfoldable pub free : ℕ → List ℕ → Bool
free separator bytes = each (λ b. not (eqb b separator)) bytes

-- there is a first part
pub parts_some : (sep : ℕ) (s : List ℕ) → (p : List ℕ) × (ps : List (List ℕ)) × (parts sep s ≡ p ∷ ps)
unfolding parts before
parts_some sep [] = ([], [], refl)
parts_some sep (b ∷ bs) = elim (test (eqb b sep)) [
  | inl e ↦ ([], parts sep bs, rw e)
  | inr e ↦
      let r : (p : List ℕ) × (ps : List (List ℕ)) × (parts sep bs ≡ p ∷ ps) = parts_some sep bs in
      (b ∷ r.0, r.1, rw (e, r.2))
]

-- bytes without a separator are one part
pub parts_last : (sep : ℕ) (xs : List ℕ) → free sep xs ≡ true → parts sep xs ≡ xs ∷ []
unfolding parts before free each
parts_last sep [] h = refl
parts_last sep (b ∷ bs) h =
    let e : eqb b sep ≡ false = not-true (eqb b sep) (and_left (not (eqb b sep)) (free sep bs) h) in
    rw (e, parts_last sep bs (and_right (not (eqb b sep)) (free sep bs) h))

-- a part ends at the first separator
pub parts_next : (sep : ℕ) (xs ys : List ℕ) → free sep xs ≡ true → parts sep (xs ++ sep ∷ ys) ≡ xs ∷ parts sep ys
unfolding parts before free each
parts_next sep [] ys h = rw (eq-eqb sep sep refl)
parts_next sep (b ∷ bs) ys h =
    let e : eqb b sep ≡ false = not-true (eqb b sep) (and_left (not (eqb b sep)) (free sep bs) h) in
    rw (e, parts_next sep bs ys (and_right (not (eqb b sep)) (free sep bs) h))

-- where no place has the separator, the bytes are one part
pub one_part : (sep : ℕ) (s : List ℕ) → ((k : ℕ) → k < length s → get_or s k 0 ≡ sep → ⊥) → parts sep s ≡ s ∷ []
unfolding parts before
one_part sep [] h = refl
one_part sep (b ∷ bs) h =
    let e : eqb b sep ≡ false = ne_eqb b sep (h 0 (suc-le-suc zero-le)) in
    rw (e, one_part sep bs (λ k l. h (suc k) (suc-le-suc l)))

-- where place i is the first with the separator, the first part ends there
first_at : (sep : ℕ) (s : List ℕ) (i : ℕ) → i < length s → get_or s i 0 ≡ sep → ((k : ℕ) → k < i → get_or s k 0 ≡ sep → ⊥)
    → parts sep s ≡ take i s ∷ parts sep (drop (suc i) s)
unfolding parts before
first_at sep [] i l e h = absurd (not-suc-le-zero l)
first_at sep (b ∷ bs) zero l e h = rw (eq-eqb b sep e)
first_at sep (b ∷ bs) (suc i) l e h =
    let other : eqb b sep ≡ false = ne_eqb b sep (h 0 (suc-le-suc zero-le)) in
    rw (other, first_at sep bs i (le_of_suc-le-suc l) e (λ k below. h (suc k) (suc-le-suc below)))

pub first_part : (sep : ℕ) (s : List ℕ) (i : ℕ) → i < length s → get_or s i 0 ≡ sep → ((k : ℕ) → k < i → get_or s k 0 ≡ sep → ⊥)
    → parts sep s ≡ take i s ∷ parts sep (drop (i + 1) s)
first_part sep s i l e h = rw add-one (first_at sep s i l e h)
