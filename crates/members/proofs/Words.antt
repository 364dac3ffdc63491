-- Laws of the operations on masks of 32 bits.
-- Assumes nothing.
use mathlib.Core.Path.{◌≡◌, refl, sym, ap, ◌∙◌, subst}
use mathlib.Core.Logic.{◌⊎◌, inl, inr}
use mathlib.Core.Bool.{Bool, true, false, ◌&&◌, ◌||◌, not, cond}
use Prim.Native.Nat.{ℕ, zero, suc, ◌+◌, ◌-◌, ◌*◌, ◌%◌, ◌/◌, ◌^◌, ◌≤◌, ◌<◌, zero-le, suc-le-suc}
use native.Mathlib.Nat.{le_refl, le-suc, le_of_eq, le_of_lt, le_of_suc-le-suc, eq-or-lt_of_le, lt_of_lt_of_le, lt_of_le_of_lt, le_trans, lt_irrefl, lt_of_not-le, one-mul}
use native.Mathlib.Numerals.{add-one}
use native.Mathlib.Decide.{dec_le}
use native.Mathlib.Omega.{arith}
use lib.Dec.{lit<, eqb, ltb, leb, leb-suc-suc}
use lib.Arith.{lt_of_le-ne}
use lib.Bits.{bit_and, bit_or, and_mask, and_le_l, or_lt}
use lib.Count.{ones, count_trailing_zeros}
use lib.Pow.{pow_mono, pow-lt, pow_pos, shl_exact}
use borrow.Author.Tests.{eq-eqb, eqb-true, eqb-false, ne_eqb, le-leb, lt-ltb, le-ltb, ltb-true, ltb-false}
use Rattle.lists.specs.Tabulate.{count}
use Rattle.lists.proofs.Bools.{test, clash, or_no, or_yes, and_yes, and_no}
use Rattle.lists.proofs.Count.{count_more, count-all}
use Rattle.members.specs.Members.{size, has, set_of, is_set, card, adding, striking, first_of, common}
use Rattle.members.specs.Internal.Lowest.{First}
use Rattle.members.proofs.Masks.{has-set_of, set_of-lt, set_of-has, set_of_ext, same_members, has-zero, has_above, has-and, has-or}
use Rattle.members.proofs.Masks.{has-not, has-power, has_shift, has_below, has_lowest, ones-card, ones_and, suc_everyone, card_more}

-- ---- what the code computes

-- bit i of the shifted mask
pub shift_has : (m i : ℕ) → eqb (bit_and (m / 2 ^ i) 1) 1 ≡ has m i
shift_has m i = ap (λ (x : ℕ). eqb x 1) (and_mask (m / 2 ^ i) 1) ∙ sym (has_shift i m)

pub adding-or : (m i : ℕ) → m < 2 ^ 32 → i < 32 → bit_or m (2 ^ i) ≡ adding m i
unfolding adding
adding-or m i h k =
    same_members 32 (bit_or m (2 ^ i)) (set_of 32 (λ j. has m j || eqb j i)) (or_lt 32 m (2 ^ i) h (pow-lt k)) (set_of-lt 32 (λ j. has m j || eqb j i))
    (λ j l. has-or j m (2 ^ i) ∙ ap (λ (b : Bool). has m j || b) (has-power i j) ∙ sym (has-set_of 32 (λ x. has m x || eqb x i) j l))

apart : (i j : ℕ) → j < 32 → 32 ≤ i → eqb j i ≡ false
apart i j l k = ne_eqb j i (λ e. lt_irrefl j (lt_of_lt_of_le l (subst (λ (x : ℕ). 32 ≤ x) (sym e) k)))

pub adding_beyond : (m i : ℕ) → m < 2 ^ 32 → 32 ≤ i → m ≡ adding m i
unfolding adding
adding_beyond m i h k =
    sym (set_of_ext 32 (λ j. has m j || eqb j i) (has m) (λ j l. or_no (has m j) (eqb j i) (apart i j l k)) ∙ set_of-has 32 m h)

pub striking-and : (m i : ℕ) → m < 2 ^ 32 → i < 32 → bit_and m (4294967295 - 2 ^ i) ≡ striking m i
unfolding striking
striking-and m i h k =
    same_members 32 (bit_and m (4294967295 - 2 ^ i)) (set_of 32 (λ j. has m j && not (eqb j i))) (lt_of_le_of_lt (and_le_l m (4294967295 - 2 ^ i)) h)
    (set_of-lt 32 (λ j. has m j && not (eqb j i)))
    (λ j l. has-and j m (4294967295 - 2 ^ i) ∙ ap (λ (b : Bool). has m j && b) (has-not 32 (2 ^ i) j (pow-lt k) l ∙ ap not (has-power i j))
    ∙ sym (has-set_of 32 (λ x. has m x && not (eqb x i)) j l))

pub striking_beyond : (m i : ℕ) → m < 2 ^ 32 → 32 ≤ i → m ≡ striking m i
unfolding striking
striking_beyond m i h k =
    sym (set_of_ext 32 (λ j. has m j && not (eqb j i)) (has m) (λ j l. and_yes (has m j) (not (eqb j i)) (ap not (apart i j l k))) ∙ set_of-has 32 m h)

pub common-ones : (a b : ℕ) → a < 2 ^ 32 → b < 2 ^ 32 → ones (bit_and a b) ≡ common a b
unfolding common
common-ones a b ha hb = ones_and 32 a b ha hb

-- ---- a set without one of its members

pub has-striking : (m i j : ℕ) → j < 32 → has (striking m i) j ≡ has m j && not (eqb j i)
unfolding striking
has-striking m i j l = has-set_of 32 (λ x. has m x && not (eqb x i)) j l

pub striking-le : (m i : ℕ) → m < 2 ^ 32 → i < 32 → striking m i ≤ m
striking-le m i h k = le_trans (le_of_eq (sym (striking-and m i h k))) (and_le_l m (4294967295 - 2 ^ i))

-- it is a smaller number
pub striking_less : (m i : ℕ) → m < 2 ^ 32 → i < 32 → has m i ≡ true → striking m i < m
striking_less m i h k y =
    lt_of_le-ne (striking-le m i h k)
    (λ e. clash y (sym (ap (λ (x : ℕ). has x i) e) ∙ has-striking m i i k ∙ and_no (has m i) (not (eqb i i)) (ap not (eq-eqb i i refl))))

-- ---- the same operations on n members, n at most 32

-- the first n members are all of n
pub first_of-all : (n : ℕ) → n ≤ 32 → first_of n ≡ set_of n (λ i. true)
unfolding first_of
first_of-all n l =
    same_members 32 (set_of 32 (λ i. ltb i n)) (set_of n (λ i. true)) (set_of-lt 32 (λ i. ltb i n)) (lt_of_lt_of_le (set_of-lt n (λ i. true)) (pow_mono l))
    (λ i k. has-set_of 32 (λ j. ltb j n) i k ∙ sides i (test (ltb i n)))
  where
    sides : (i : ℕ) → (ltb i n ≡ true) ⊎ (ltb i n ≡ false) → ltb i n ≡ has (set_of n (λ j. true)) i
    sides i (inl y) = y ∙ sym (has-set_of n (λ j. true) i (ltb-true i n y))
    sides i (inr y) = y ∙ sym (has_above n (set_of n (λ j. true)) i (set_of-lt n (λ j. true)) (ltb-false i n y))

pub first_of-power : (n : ℕ) → n ≤ 32 → suc (first_of n) ≡ 2 ^ n
first_of-power n l = ap suc (first_of-all n l) ∙ suc_everyone n

pub first_of-lt : (n : ℕ) → n ≤ 32 → first_of n < 2 ^ n
first_of-lt n l = le_of_eq (first_of-power n l)

pub first_of_beyond : (n : ℕ) → 32 ≤ n → suc (first_of n) ≡ 2 ^ 32
unfolding first_of
first_of_beyond n l =
    ap suc (set_of_ext 32 (λ i. ltb i n) (λ i. true) (λ i k. lt-ltb i n (lt_of_lt_of_le k l))) ∙ suc_everyone 32

-- each of the n members is in, and there are n
pub has-first_of : (n i : ℕ) → n ≤ 32 → i < n → has (first_of n) i ≡ true
has-first_of n i l h = ap (λ (m : ℕ). has m i) (first_of-all n l) ∙ has-set_of n (λ j. true) i h

pub card-first_of : (n : ℕ) → n ≤ 32 → card n (first_of n) ≡ n
unfolding card
card-first_of n l = count-all n (has (first_of n)) (λ i h. has-first_of n i l h)

-- a mask has no bit beyond the n members if it is at most all of them
pub first_of-is_set : (n m : ℕ) → n ≤ 32 → leb m (first_of n) ≡ is_set n m
first_of-is_set n m l = sym (leb-suc-suc m (first_of n)) ∙ ap (leb (suc m)) (first_of-power n l)

-- a set of n members with one of them more
pub set_of_more : (n i : ℕ) (p q : ℕ → Bool) → n ≤ 32 → i < n → q i ≡ true → ((j : ℕ) → j < n → (j ≡ i → ⊥) → q j ≡ p j) → adding (set_of n p) i ≡ set_of n q
unfolding adding
set_of_more n i p q few l on same =
    set_of_ext 32 (λ j. has (set_of n p) j || eqb j i) (has (set_of n q)) (λ j k. sides j (test (eqb j i)) (test (ltb j n)))
    ∙ set_of-has 32 (set_of n q) (lt_of_lt_of_le (set_of-lt n q) (pow_mono few))
  where
    sides : (j : ℕ) → (eqb j i ≡ true) ⊎ (eqb j i ≡ false) → (ltb j n ≡ true) ⊎ (ltb j n ≡ false) → has (set_of n p) j || eqb j i ≡ has (set_of n q) j
    sides j (inl e) c = or_yes (has (set_of n p) j) (eqb j i) e ∙ sym (ap (has (set_of n q)) (eqb-true j i e) ∙ has-set_of n q i l ∙ on)
    sides j (inr e) (inl b) =
        or_no (has (set_of n p) j) (eqb j i) e ∙ has-set_of n p j (ltb-true j n b) ∙ sym (same j (ltb-true j n b) (eqb-false j i e))
        ∙ sym (has-set_of n q j (ltb-true j n b))
    sides j (inr e) (inr b) =
        or_no (has (set_of n p) j) (eqb j i) e ∙ has_above n (set_of n p) j (set_of-lt n p) (ltb-false j n b)
        ∙ sym (has_above n (set_of n q) j (set_of-lt n q) (ltb-false j n b))

-- a set of the first of n members, without the next one
pub set_of_without : (n : ℕ) (p : ℕ → Bool) → p n ≡ false → set_of (suc n) p ≡ set_of n p
set_of_without n p y =
    same_members (suc n) (set_of (suc n) p) (set_of n p) (set_of-lt (suc n) p) (lt_of_lt_of_le (set_of-lt n p) (pow_mono (le-suc n)))
    (λ i k. has-set_of (suc n) p i k ∙ sides i (eq-or-lt_of_le (le_of_suc-le-suc k)))
  where
    sides : (i : ℕ) → (i ≡ n) ⊎ (i < n) → p i ≡ has (set_of n p) i
    sides i (inl e) = ap p e ∙ y ∙ sym (has_above n (set_of n p) i (set_of-lt n p) (le_of_eq (sym e)))
    sides i (inr l) = sym (has-set_of n p i l)

-- or with it
pub set_of_with : (n : ℕ) (p : ℕ → Bool) → n < 32 → p n ≡ true → set_of (suc n) p ≡ adding (set_of n p) n
set_of_with n p l y =
    sym (set_of_more (suc n) n before p l (le_refl (suc n)) y (λ j k ne. sym (first j (below j ne (eq-or-lt_of_le (le_of_suc-le-suc k))))))
    ∙ ap (λ (m : ℕ). adding m n) (set_of_without n before (and_no (p n) (ltb n n) (le-ltb n n (le_refl n))) ∙ set_of_ext n before p first)
  where
    before : ℕ → Bool
    before j = p j && ltb j n

    first : (j : ℕ) → j < n → before j ≡ p j
    first j k = and_yes (p j) (ltb j n) (lt-ltb j n k)

    below : (j : ℕ) → (j ≡ n → ⊥) → (j ≡ n) ⊎ (j < n) → j < n
    below j ne (inl e) = absurd (ne e)
    below j ne (inr k) = k

-- the members that a set of n members has in common with a mask
pub common-count : (n a b : ℕ) → n ≤ 32 → b < 2 ^ n → common a b ≡ count n (λ j. has a j && has b j)
unfolding common
common-count n a b l h =
    count_more n 32 (λ j. has a j && has b j) l (λ i k m. and_no (has a i) (has b i) (has_above n b i h k))

-- ---- a station's members

-- at least 1 and at most 31
pub size_pos : (t : ℕ) → 1 ≤ size t
unfolding size
size_pos t = omega arith

pub size_31 : (t : ℕ) → t ≤ 15 → size t ≤ 31
unfolding size
size_31 t h = omega arith

pub size_32 : (t : ℕ) → t ≤ 15 → size t ≤ 32
size_32 t h = le_trans (size_31 t h) (le-suc 31)

-- a loop that builds a set takes each member or leaves it
pub set_of_step : (n : ℕ) (p : ℕ → Bool) (b : Bool) → n < 32 → b ≡ p n → cond b (adding (set_of n p) n) (set_of n p) ≡ set_of (n + 1) p
set_of_step n p true h e = sym (ap (λ (m : ℕ). set_of m p) (add-one n) ∙ set_of_with n p h (sym e))
set_of_step n p false h e = sym (ap (λ (m : ℕ). set_of m p) (add-one n) ∙ set_of_without n p (sym e))

pub set_of_none : (n : ℕ) (p : ℕ → Bool) → ((i : ℕ) → i < n → p i ≡ false) → set_of n p ≡ 0
unfolding set_of
set_of_none zero p h = refl
set_of_none (suc n) p h = rw (h 0 (suc-le-suc zero-le), set_of_none n (λ i. p (suc i)) (λ i l. h (suc i) (suc-le-suc l)))

-- all of a mask's bits are those of the n members, where it has none beyond
pub card_32 : (t set : ℕ) → t ≤ 15 → set < 2 ^ size t → card 32 set ≡ card (size t) set
card_32 t set small h = card_more (size t) 32 set h (size_32 t small)

-- ---- what the functions answer

-- a mask has no member beyond the 32
pub has_beyond : (m i : ℕ) → m < 2 ^ 32 → 32 ≤ i → false ≡ has m i
has_beyond m i h k = sym (has_above 32 m i h k)

-- the bits that are 1 are the members
pub card-ones : (m : ℕ) → m < 2 ^ 32 → ones m ≡ card 32 m
card-ones m h = ones-card 32 m h

-- the zeros below the lowest bit are the members before the first
pub lowest_first : (m : ℕ) → m < 2 ^ 32 → (m ≡ 0 → ⊥) → First m (count_trailing_zeros 32 m)
lowest_first m h some =
    let inside : count_trailing_zeros 32 m < 32 =
    lt_of_not-le (λ l. some (same_members 32 m 0 h (pow_pos 32) (λ k b. has_below 32 m k (lt_of_lt_of_le b l) ∙ sym (has-zero k))))
    in
    record { inside = inside; none_before = has_below 32 m; member = has_lowest 32 m inside }

-- all bits below n make 2 ^ n − 1, and from 32 on the whole mask
pub first_of-value : (n p : ℕ) → p ≡ 2 ^ n → n < 32 → p - 1 ≡ first_of n
first_of-value n p e h = omega (arith, e, first_of-power n (le_of_lt h))

pub first_of_whole : (n : ℕ) → 32 ≤ n → 4294967295 ≡ first_of n
first_of_whole n h = omega (arith, first_of_beyond n h)

-- a mask is a set of the first n members if it is at most all of them, also where n is beyond 32
pub at_most_first : (n m f : ℕ) → m < 2 ^ 32 → f ≡ first_of n → leb m f ≡ is_set n m
at_most_first n m f h e =
    ap (leb m) e
    ∙ elim (dec_le n 32) [
      | yes l ↦ first_of-is_set n m l
      | no l ↦
          let wide : 32 ≤ n = omega arith in
          le-leb m (first_of n) (omega (arith, h, first_of_beyond n wide)) ∙ sym (lt-ltb m (2 ^ n) (lt_of_lt_of_le h (pow_mono wide)))
    ]

-- 1 moved up by i places, which fits below 32
pub one_bit : (i : ℕ) → i < 32 → 1 * 2 ^ i % 2 ^ 32 ≡ 2 ^ i
one_bit i h = shl_exact 1 i 32 (lit< tt) (omega arith) ∙ one-mul _

pub ruleset words = (shift_has, has_beyond, adding-or, adding_beyond, striking-and, striking_beyond, common-ones, card-ones, lowest_first, first_of-value, first_of_whole, at_most_first, one_bit)
