-- What holds of every element of a list, and of two lists element by element.
-- Assumes nothing.
use mathlib.Core.Path.{◌≡◌, refl, ap}
use mathlib.Core.List.{List, [], ◌∷◌}
use Prim.Native.Nat.{ℕ, zero, suc, ◌<◌}
use native.Mathlib.Nat.{not-suc-le-zero, le_of_suc-le-suc}
use lib.ListN.{length, get_or}

pub data Every {A : Type 0} (P : A → Type 0) : List A → Type 0 where
  none : Every P []
  more : {x : A} {xs : List A} → P x → Every P xs → Every P (x ∷ xs)

pub every_map : {A : Type 0} {P Q : A → Type 0} {xs : List A} → ((x : A) → P x → Q x) → Every P xs → Every Q xs
every_map f none = none
every_map f (more {x = x} p e) = more (f x p) (every_map f e)

pub every_both : {A : Type 0} {P Q R : A → Type 0} {xs : List A} → ((x : A) → P x → Q x → R x) → Every P xs → Every Q xs → Every R xs
every_both f none none = none
every_both f (more {x = x} p e) (more q g) = more (f x p q) (every_both f e g)

pub every_at : {A : Type 0} {P : A → Type 0} {xs : List A} → Every P xs → (i : ℕ) (d : A) → i < length xs → P (get_or xs i d)
every_at none i d h = absurd (not-suc-le-zero h)
every_at (more p e) zero d h = p
every_at (more p e) (suc i) d h = every_at e i d (le_of_suc-le-suc h)

-- what holds of two lists element by element
pub data Both {A B : Type 0} (P : A → B → Type 0) : List A → List B → Type 0 where
  none : Both P [] []
  more : {x : A} {y : B} {xs : List A} {ys : List B} → P x y → Both P xs ys → Both P (x ∷ xs) (y ∷ ys)

-- such lists are of the same length
pub both_length : {A B : Type 0} {P : A → B → Type 0} {xs : List A} {ys : List B} → Both P xs ys → length xs ≡ length ys
both_length none = refl
both_length (more p b) = ap suc (both_length b)
