-- Laws of sets of members as masks.
-- Assumes nothing.
use mathlib.Core.Path.{◌≡◌, refl, sym, ap, ap₂, ◌∙◌}
use mathlib.Core.Bool.{Bool, true, false, ◌&&◌, ◌||◌, not}
use Prim.Native.Nat.{ℕ, zero, suc, ◌+◌, ◌-◌, ◌*◌, ◌/◌, ◌%◌, ◌^◌, ◌≤◌, ◌<◌, min, max, zero-le, suc-le-suc}
use native.Mathlib.Nat.{not-suc-le-zero, le_of_suc-le-suc, le_trans, lt_of_not-le, mod-lt, div-one, zero-lt-suc}
use native.Mathlib.Omega.{arith}
use lib.Dec.{eqb, eqb-zero-suc, eqb-suc-zero, eqb-suc-suc}
use lib.Arith.{lt-one}
use lib.Pow.{pow_pos, shr-shr}
use lib.Bits.{bit_and, bit_or, and_step, or_step, and_lt}
use lib.Count.{ones, ones_step, under, count_trailing_zeros}
use Rattle.lists.specs.Tabulate.{count}
use Rattle.lists.proofs.Bools.{clash, same_test}
use Rattle.lists.proofs.Count.{to_ℕ, count-le, count_mono, count_ext, count-back, count_more, count_some}
use Rattle.lists.proofs.Grown.{Grown, count_grown}
use Rattle.members.specs.Members.{bit, has, set_of, card}

-- ---- digits, lowest first

half_of : (b : Bool) (r : ℕ) → (to_ℕ b + 2 * r) / 2 ≡ r
half_of true r = omega arith
half_of false r = omega arith

low_of : (b : Bool) (r : ℕ) → eqb ((to_ℕ b + 2 * r) % 2) 1 ≡ b
low_of true r = let e : (1 + 2 * r) % 2 ≡ 1 = omega arith in rw e
low_of false r = let e : (0 + 2 * r) % 2 ≡ 0 = omega arith in rw e

-- a digit from its test
low_back : (x : ℕ) → to_ℕ (eqb (x % 2) 1) ≡ x % 2
low_back x = cases (x % 2) (mod-lt x (zero-lt-suc 1))
  where
    cases : (r : ℕ) → r < 2 → to_ℕ (eqb r 1) ≡ r
    cases zero h = refl
    cases (suc zero) h = refl
    cases (suc (suc r)) h = absurd (not-suc-le-zero (le_of_suc-le-suc (le_of_suc-le-suc h)))

half_lt : (n m : ℕ) → m < 2 ^ suc n → m / 2 < 2 ^ n
half_lt n m h = omega arith

-- ---- a set by its test, and back

pub has-set_of : (n : ℕ) (p : ℕ → Bool) (i : ℕ) → i < n → has (set_of n p) i ≡ p i
unfolding has bit set_of
has-set_of zero p i h = absurd (not-suc-le-zero h)
has-set_of (suc n) p zero h = low_of (p 0) (set_of n (λ i. p (suc i)))
has-set_of (suc n) p (suc i) h =
    ap (λ (m : ℕ). has m i) (half_of (p 0) (set_of n (λ j. p (suc j)))) ∙ has-set_of n (λ j. p (suc j)) i (le_of_suc-le-suc h)

low_lt : (b : Bool) (n r : ℕ) → r < 2 ^ n → to_ℕ b + 2 * r < 2 ^ suc n
low_lt true n r h = omega arith
low_lt false n r h = omega arith

pub set_of-lt : (n : ℕ) (p : ℕ → Bool) → set_of n p < 2 ^ n
unfolding set_of
set_of-lt zero p = zero-lt-suc 0
set_of-lt (suc n) p = low_lt (p 0) n (set_of n (λ i. p (suc i))) (set_of-lt n (λ i. p (suc i)))

pub set_of_ext : (n : ℕ) (p q : ℕ → Bool) → ((i : ℕ) → i < n → p i ≡ q i) → set_of n p ≡ set_of n q
unfolding set_of
set_of_ext zero p q h = refl
set_of_ext (suc n) p q h =
    ap₂ (λ (b : Bool) (r : ℕ). to_ℕ b + 2 * r) (h 0 (suc-le-suc zero-le))
    (set_of_ext n (λ i. p (suc i)) (λ i. q (suc i)) (λ i k. h (suc i) (suc-le-suc k)))

whole : (m h : ℕ) → h ≡ m / 2 → to_ℕ (eqb (m % 2) 1) + 2 * h ≡ m
whole m h e = omega (arith, e, low_back m)

pub set_of-has : (n m : ℕ) → m < 2 ^ n → set_of n (has m) ≡ m
unfolding has bit set_of
set_of-has zero m h = sym (lt-one h)
set_of-has (suc n) m h = whole m (set_of n (has (m / 2))) (set_of-has n (m / 2) (half_lt n m h))

-- two sets with the same members are equal
pub same_members : (n a b : ℕ) → a < 2 ^ n → b < 2 ^ n → ((i : ℕ) → i < n → has a i ≡ has b i) → a ≡ b
same_members n a b ha hb h = sym (set_of-has n a ha) ∙ set_of_ext n (has a) (has b) h ∙ set_of-has n b hb

pub subsets_equal : (n a b : ℕ) → a < 2 ^ n → b < 2 ^ n → ((i : ℕ) → i < n → has a i ≡ true → has b i ≡ true)
    → ((i : ℕ) → i < n → has b i ≡ true → has a i ≡ true) → a ≡ b
subsets_equal n a b ha hb f g = same_members n a b ha hb (λ i k. same_test (has a i) (has b i) (f i k) (g i k))

pub has-zero : (i : ℕ) → has 0 i ≡ false
unfolding has bit
has-zero zero = refl
has-zero (suc i) = has-zero i

-- no member beyond the n
pub has_above : (n m i : ℕ) → m < 2 ^ n → n ≤ i → has m i ≡ false
unfolding has bit
has_above zero m i h l = ap (λ (x : ℕ). has x i) (lt-one h) ∙ has-zero i
has_above (suc n) m zero h l = absurd (not-suc-le-zero l)
has_above (suc n) m (suc i) h l = has_above n (m / 2) i (half_lt n m h) (le_of_suc-le-suc l)

pub has_inside : (n m i : ℕ) → m < 2 ^ n → has m i ≡ true → i < n
has_inside n m i h y = lt_of_not-le (λ l. clash y (has_above n m i h l))

-- ---- how many members

pub card-set_of : (n : ℕ) (p : ℕ → Bool) → card n (set_of n p) ≡ count n p
unfolding card
card-set_of n p = count_ext n (has (set_of n p)) p (has-set_of n p)

pub card-le : (n m : ℕ) → card n m ≤ n
unfolding card
card-le n m = count-le n (has m)

pub card_mono : (n a b : ℕ) → ((i : ℕ) → i < n → has a i ≡ true → has b i ≡ true) → card n a ≤ card n b
unfolding card
card_mono n a b h = count_mono n (has a) (has b) h

-- a subset that is not smaller is the set
pub card_same : (n a b : ℕ) → a < 2 ^ n → b < 2 ^ n → ((i : ℕ) → i < n → has a i ≡ true → has b i ≡ true) → card n b ≤ card n a → a ≡ b
unfolding card
card_same n a b ha hb h l = subsets_equal n a b ha hb h (count-back n (has a) (has b) h l)

-- a set of no members is 0, and any other has one
pub card_none : (n m : ℕ) → m < 2 ^ n → card n m ≤ 0 → m ≡ 0
card_none n m h l = sym (card_same n 0 m (pow_pos n) h (λ i k y. absurd (clash y (has-zero i))) (le_trans l zero-le))

pub card_some : (n m : ℕ) → 0 < card n m → (i : ℕ) × (i < n) × (has m i ≡ true)
unfolding card
card_some n m h = count_some n (has m) h

-- a set of at most m members grows to one of m
pub grown_set : (n m set : ℕ) → card n set ≤ m → m ≤ n → (s : ℕ) × ((i : ℕ) → i < n → has set i ≡ true → has s i ≡ true) × (card n s ≡ m)
unfolding card
grown_set n m set few room =
    let g : Grown n m (has set) = count_grown n m (has set) few room in
    (set_of n g.grown, λ i h e. has-set_of n g.grown i h ∙ g.wider i h e, card-set_of n g.grown ∙ g.many)

-- the places beyond the n change nothing
pub card_more : (n k m : ℕ) → m < 2 ^ n → n ≤ k → card k m ≡ card n m
unfolding card
card_more n k m h l = count_more n k (has m) l (λ i a b. has_above n m i h a)

-- ---- the language's operations on masks

pub ones-card : (n m : ℕ) → m < 2 ^ n → ones m ≡ card n m
unfolding card count has bit
ones-card zero m h = ap ones (lt-one h) ∙ unfold ones in refl
ones-card (suc n) m h = ones_step m ∙ ap₂ (λ (x y : ℕ). x + y) (sym (low_back m)) (ones-card n (m / 2) (half_lt n m h))

both : (x y : ℕ) → x < 2 → y < 2 → eqb (min x y) 1 ≡ eqb x 1 && eqb y 1
both zero zero h k = refl
both zero (suc zero) h k = refl
both (suc zero) zero h k = refl
both (suc zero) (suc zero) h k = refl
both (suc (suc x)) y h k = absurd (not-suc-le-zero (le_of_suc-le-suc (le_of_suc-le-suc h)))
both zero (suc (suc y)) h k = absurd (not-suc-le-zero (le_of_suc-le-suc (le_of_suc-le-suc k)))
both (suc zero) (suc (suc y)) h k = absurd (not-suc-le-zero (le_of_suc-le-suc (le_of_suc-le-suc k)))

either : (x y : ℕ) → x < 2 → y < 2 → eqb (max x y) 1 ≡ eqb x 1 || eqb y 1
either zero zero h k = refl
either zero (suc zero) h k = refl
either (suc zero) zero h k = refl
either (suc zero) (suc zero) h k = refl
either (suc (suc x)) y h k = absurd (not-suc-le-zero (le_of_suc-le-suc (le_of_suc-le-suc h)))
either zero (suc (suc y)) h k = absurd (not-suc-le-zero (le_of_suc-le-suc (le_of_suc-le-suc k)))
either (suc zero) (suc (suc y)) h k = absurd (not-suc-le-zero (le_of_suc-le-suc (le_of_suc-le-suc k)))

-- the digits of a number that is written by its lowest digit and the rest
step_low : (m r d : ℕ) → d < 2 → m ≡ r * 2 + d → m % 2 ≡ d
step_low m r d h e = omega arith

step_half : (m r d : ℕ) → d < 2 → m ≡ r * 2 + d → m / 2 ≡ r
step_half m r d h e = omega arith

min-lt : (x y : ℕ) → x < 2 → min x y < 2
min-lt x y h = omega arith

max-lt : (x y : ℕ) → x < 2 → y < 2 → max x y < 2
max-lt x y h k = omega arith

mod2 : (x : ℕ) → x % 2 < 2
mod2 x = mod-lt x (zero-lt-suc 1)

pub has-and : (i a b : ℕ) → has (bit_and a b) i ≡ has a i && has b i
unfolding has bit
has-and zero a b =
    ap (λ (x : ℕ). eqb x 1) (step_low (bit_and a b) (bit_and (a / 2) (b / 2)) (min (a % 2) (b % 2)) (min-lt (a % 2) (b % 2) (mod2 a)) (and_step a b))
    ∙ both (a % 2) (b % 2) (mod2 a) (mod2 b)
has-and (suc i) a b =
    ap (λ (x : ℕ). has x i) (step_half (bit_and a b) (bit_and (a / 2) (b / 2)) (min (a % 2) (b % 2)) (min-lt (a % 2) (b % 2) (mod2 a)) (and_step a b))
    ∙ has-and i (a / 2) (b / 2)

pub has-or : (i a b : ℕ) → has (bit_or a b) i ≡ has a i || has b i
unfolding has bit
has-or zero a b =
    ap (λ (x : ℕ). eqb x 1) (step_low (bit_or a b) (bit_or (a / 2) (b / 2)) (max (a % 2) (b % 2)) (max-lt (a % 2) (b % 2) (mod2 a) (mod2 b)) (or_step a b))
    ∙ either (a % 2) (b % 2) (mod2 a) (mod2 b)
has-or (suc i) a b =
    ap (λ (x : ℕ). has x i) (step_half (bit_or a b) (bit_or (a / 2) (b / 2)) (max (a % 2) (b % 2)) (max-lt (a % 2) (b % 2) (mod2 a) (mod2 b)) (or_step a b))
    ∙ has-or i (a / 2) (b / 2)

low_other : (r m : ℕ) → m < 2 ^ suc r → (2 ^ suc r - 1 - m) % 2 ≡ 1 - m % 2
low_other r m h = omega arith

half_other : (r m : ℕ) → m < 2 ^ suc r → (2 ^ suc r - 1 - m) / 2 ≡ 2 ^ r - 1 - m / 2
half_other r m h = omega arith

other : (x : ℕ) → x < 2 → eqb (1 - x) 1 ≡ not (eqb x 1)
other zero h = refl
other (suc zero) h = refl
other (suc (suc x)) h = absurd (not-suc-le-zero (le_of_suc-le-suc (le_of_suc-le-suc h)))

-- those of n members that are not in the set
pub has-not : (n m i : ℕ) → m < 2 ^ n → i < n → has (2 ^ n - 1 - m) i ≡ not (has m i)
unfolding has bit
has-not zero m i h k = absurd (not-suc-le-zero k)
has-not (suc n) m zero h k = ap (λ (x : ℕ). eqb x 1) (low_other n m h) ∙ other (m % 2) (mod2 m)
has-not (suc n) m (suc i) h k = ap (λ (x : ℕ). has x i) (half_other n m h) ∙ has-not n (m / 2) i (half_lt n m h) (le_of_suc-le-suc k)

low_zero : (b zeros : ℕ) → 0 < under b zeros → eqb b 1 ≡ false
low_zero zero zeros h = refl
low_zero (suc b) zeros h = absurd (not-suc-le-zero h)

below_rest : (b zeros i : ℕ) → suc i < under b zeros → i < zeros
below_rest zero zeros i h = le_of_suc-le-suc h
below_rest (suc b) zeros i h = absurd (not-suc-le-zero h)

-- nobody stands at the zeros below the lowest bit
pub has_below : (n m i : ℕ) → i < count_trailing_zeros n m → has m i ≡ false
unfolding has bit count_trailing_zeros
has_below zero m i h = absurd (not-suc-le-zero h)
has_below (suc n) m zero h = low_zero (m % 2) (count_trailing_zeros n (m / 2)) h
has_below (suc n) m (suc i) h = has_below n (m / 2) i (below_rest (m % 2) (count_trailing_zeros n (m / 2)) i h)

lowest_step : (n m b zeros : ℕ) → b < 2 → m % 2 ≡ b → (zeros < n → has (m / 2) zeros ≡ true) → under b zeros < suc n → has m (under b zeros) ≡ true
unfolding has bit
lowest_step n m zero zeros h e rest l = rest (le_of_suc-le-suc l)
lowest_step n m (suc zero) zeros h e rest l = ap (λ (x : ℕ). eqb x 1) e
lowest_step n m (suc (suc b)) zeros h e rest l = absurd (not-suc-le-zero (le_of_suc-le-suc (le_of_suc-le-suc h)))

-- a member stands at the lowest bit
pub has_lowest : (n m : ℕ) → count_trailing_zeros n m < n → has m (count_trailing_zeros n m) ≡ true
unfolding count_trailing_zeros
has_lowest zero m h = absurd (not-suc-le-zero h)
has_lowest (suc n) m h = lowest_step n m (m % 2) (count_trailing_zeros n (m / 2)) (mod2 m) refl (has_lowest n (m / 2)) h

-- the members that two sets have in common, counted
pub ones_and : (n a b : ℕ) → a < 2 ^ n → b < 2 ^ n → ones (bit_and a b) ≡ count n (λ j. has a j && has b j)
unfolding card
ones_and n a b ha hb = ones-card n (bit_and a b) (and_lt n a b ha hb) ∙ count_ext n (has (bit_and a b)) (λ j. has a j && has b j) (λ i k. has-and i a b)

-- the set of one member
pub has-power : (k i : ℕ) → has (2 ^ k) i ≡ eqb i k
unfolding has bit
has-power zero zero = refl
has-power zero (suc i) = has-zero i ∙ sym (eqb-suc-zero i)
has-power (suc k) zero =
    let e : 2 ^ suc k % 2 ≡ 0 = omega arith in
    ap (λ (x : ℕ). eqb x 1) e ∙ sym (eqb-zero-suc k)
has-power (suc k) (suc i) =
    let e : 2 ^ suc k / 2 ≡ 2 ^ k = omega arith in
    ap (λ (x : ℕ). has x i) e ∙ has-power k i ∙ sym (eqb-suc-suc i k)

bit_shift : (i m : ℕ) → bit i m ≡ m / 2 ^ i % 2
unfolding bit
bit_shift zero m = ap (λ (x : ℕ). x % 2) (sym (div-one m))
bit_shift (suc i) m =
    let e : 1 + i ≡ suc i = omega arith in
    bit_shift i (m / 2) ∙ ap (λ (x : ℕ). x % 2) (shr-shr m 1 i ∙ ap (λ (k : ℕ). m / 2 ^ k) e)

-- a member by the shifted mask
pub has_shift : (i m : ℕ) → has m i ≡ eqb (m / 2 ^ i % 2) 1
unfolding has
has_shift i m = ap (λ (x : ℕ). eqb x 1) (bit_shift i m)

-- ---- all n members

all-suc : (n r : ℕ) → suc r ≡ 2 ^ n → suc (1 + 2 * r) ≡ 2 ^ suc n
all-suc n r h = omega arith

pub suc_everyone : (n : ℕ) → suc (set_of n (λ i. true)) ≡ 2 ^ n
unfolding set_of
suc_everyone zero = refl
suc_everyone (suc n) = all-suc n (set_of n (λ i. true)) (suc_everyone n)
