-- What documents 01 and 02 say of their rules beside stating them. Proved in proofs/Rules.antt.
use Rattle.std.specs.Prelude.{ℕ, suc, ◌+◌, ◌%◌, ◌^◌, ◌≤◌, ◌<◌, ◌≡◌, ◌⊎◌, true, cond, ◌||◌, List, get_or}
use Rattle.std.proofs.Math.Option.{some}
use Rattle.field.specs.Field.{prime, product, inverse}
use Rattle.polynomial.specs.Polynomial.{value}
use Rattle.members.specs.Members.{size, has, set_of, card, striking}
use Rattle.pruning.specs.Pruning.{votes, survivors, Closed, Largest}
use Rattle.decoding.specs.Decoding.{Fits, nth, find}
use Rattle.claims.specs.General.{Points}

-- two sets of n members joined
unfoldable pub joined : ℕ → ℕ → ℕ → ℕ
joined n a b = set_of n (λ i. has a i || has b i)

-- some members of a set are struck, each for having fewer than t + 1 votes of it
pub record Strike (t : ℕ) (rows : List ℕ) (set next : ℕ) : Type 0 where
  pub below : next < 2 ^ size t
  pub fewer : (i : ℕ) → i < size t → has next i ≡ true → has set i ≡ true
  pub keeps : (i : ℕ) → i < size t → has set i ≡ true → suc t ≤ votes t rows set i → has next i ≡ true

-- strikes one after the other, in any order, one member at a time or several
pub data Struck (t : ℕ) (rows : List ℕ) : ℕ → ℕ → Type 0 where
  stop : {set : ℕ} → Struck t rows set set
  strike : {set next end : ℕ} → Strike t rows set next → Struck t rows next end → Struck t rows set end

pub record Rules : Type 0 where
  -- p is prime: no number between 1 and it divides it
  pub prime_is_prime : (a : ℕ) → 1 < a → a < prime → ¬ (prime % a ≡ 0)
  -- every field word but 0 has an inverse, a field word
  pub inverses : (a : ℕ) → 0 < a → a < prime → (inverse a < prime) × (product a (inverse a) ≡ 1)
  -- the joining of two closed sets is closed
  pub joined_closed : (t : ℕ) (rows : List ℕ) (a b : ℕ) → Closed t rows a → Closed t rows b → Closed t rows (joined (size t) a b)
  -- the survivors are the largest closed set, and the only one
  pub survivors_largest : (t : ℕ) (rows : List ℕ) → Largest t rows (survivors t rows)
  pub one_largest : (t : ℕ) (rows : List ℕ) (set : ℕ) → Largest t rows set → set ≡ survivors t rows
  -- they are empty or at least t + 1
  pub survivors_size : (t : ℕ) (rows : List ℕ) → (survivors t rows ≡ 0) ⊎ (suc t ≤ card (size t) (survivors t rows))
  -- the order of striking is free: whatever was struck, once everyone left has t + 1 votes of those left, these are the survivors
  pub any_order : (t : ℕ) (rows : List ℕ) (end : ℕ) → Struck t rows (set_of (size t) (λ i. true)) end → Closed t rows end → end ≡ survivors t rows
  -- striking member i takes its vote from each whom it accepted, and nothing else (document 02, W-203)
  pub subtracting : (t : ℕ) (rows : List ℕ) (set i : ℕ) → t ≤ 15 → i < size t → has set i ≡ true
      → (k : ℕ) → votes t rows set k ≡ cond (has (get_or rows k 0) i) 1 0 + votes t rows (striking set i) k
  -- what is found fits
  pub found_fits : (xs : List ℕ) (t d : ℕ) (y : ℕ → ℕ → ℕ) (set : ℕ) (fs : List (List ℕ)) → find xs t d y set ≡ some fs → Fits xs t d y set (nth fs)
  -- polynomials are found if any fit, at any distinct points
  pub finds : (xs : List ℕ) (t d : ℕ) (y : ℕ → ℕ → ℕ) (set : ℕ) → Points (size t) xs
      → (f : ℕ → List ℕ) → Fits xs t d y set f → (fs : List (List ℕ)) × (find xs t d y set ≡ some fs)
  -- there are never two choices with other values anywhere
  pub never_two : (xs : List ℕ) (t d : ℕ) (y : ℕ → ℕ → ℕ) (set : ℕ) → Points (size t) xs
      → (f g : ℕ → List ℕ) → Fits xs t d y set f → Fits xs t d y set g → (k : ℕ) → k < d → (x : ℕ) → value (f k) x ≡ value (g k) x
