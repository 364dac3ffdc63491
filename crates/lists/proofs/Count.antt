-- Laws of `count`.
-- Assumes nothing.
use mathlib.Core.Path.{◌≡◌, refl, sym, ap, ap₂}
use mathlib.Core.Logic.{inl, inr}
use mathlib.Core.Bool.{Bool, true, false, ◌&&◌, not, cond, false≢true}
use Prim.Native.Nat.{ℕ, zero, suc, ◌+◌, ◌≤◌, ◌<◌, zero-le, suc-le-suc}
use native.Mathlib.Nat.{not-suc-le-zero, le_of_suc-le-suc, not-le_of_lt}
use native.Mathlib.Omega.{arith}
use lib.Dec.{eqb, eqb-zero-suc, eqb-suc-zero, eqb-suc-suc}
use Rattle.lists.specs.Tabulate.{count}
use Rattle.lists.proofs.Bools.{test, and_yes, and_no}

-- a test as a number: 1 where it passes
abbrev pub to_ℕ : Bool → ℕ
to_ℕ b = cond b 1 0

pub to_ℕ_le : (b : Bool) → to_ℕ b ≤ 1
to_ℕ_le true = omega arith
to_ℕ_le false = omega arith

pub to_ℕ_mono : (a b : Bool) → (a ≡ true → b ≡ true) → to_ℕ a ≤ to_ℕ b
to_ℕ_mono true true h = omega arith
to_ℕ_mono true false h = absurd (false≢true (h refl))
to_ℕ_mono false b h = zero-le

pub count-le : (n : ℕ) (p : ℕ → Bool) → count n p ≤ n
unfolding count
count-le zero p = zero-le
count-le (suc n) p = omega (arith, to_ℕ_le (p 0), count-le n (λ i. p (suc i)))

-- a test that passes wherever another does passes at least as often
pub count_mono : (n : ℕ) (p q : ℕ → Bool) → ((i : ℕ) → i < n → p i ≡ true → q i ≡ true) → count n p ≤ count n q
unfolding count
count_mono zero p q h = zero-le
count_mono (suc n) p q h =
    omega (arith, to_ℕ_mono (p 0) (q 0) (h 0 (suc-le-suc zero-le)), count_mono n (λ i. p (suc i)) (λ i. q (suc i)) (λ i k. h (suc i) (suc-le-suc k)))

pub count_ext : (n : ℕ) (p q : ℕ → Bool) → ((i : ℕ) → i < n → p i ≡ q i) → count n p ≡ count n q
unfolding count
count_ext zero p q h = refl
count_ext (suc n) p q h =
    ap₂ (λ (b : Bool) (c : ℕ). to_ℕ b + c) (h 0 (suc-le-suc zero-le)) (count_ext n (λ i. p (suc i)) (λ i. q (suc i)) (λ i k. h (suc i) (suc-le-suc k)))

-- a test that passes everywhere
pub count-all : (n : ℕ) (p : ℕ → Bool) → ((i : ℕ) → i < n → p i ≡ true) → count n p ≡ n
unfolding count
count-all zero p h = refl
count-all (suc n) p h =
    let e : to_ℕ (p 0) ≡ 1 = rw (h 0 (suc-le-suc zero-le)) in
    omega (arith, e, count-all n (λ i. p (suc i)) (λ i k. h (suc i) (suc-le-suc k)))

-- a test that passes nowhere
pub count_none : (n : ℕ) (p : ℕ → Bool) → ((i : ℕ) → i < n → p i ≡ false) → count n p ≡ 0
unfolding count
count_none zero p h = refl
count_none (suc n) p h =
    let e : to_ℕ (p 0) ≡ 0 = rw (h 0 (suc-le-suc zero-le)) in
    omega (arith, e, count_none n (λ i. p (suc i)) (λ i k. h (suc i) (suc-le-suc k)))

-- a test passes somewhere if its count is not 0
pub count_some : (n : ℕ) (p : ℕ → Bool) → 0 < count n p → (i : ℕ) × (i < n) × (p i ≡ true)
unfolding count
count_some zero p h = absurd (not-suc-le-zero h)
count_some (suc n) p h =
    elim (test (p 0)) [
      | inl e ↦ (0, suc-le-suc zero-le, e)
      | inr e ↦
          let z : to_ℕ (p 0) ≡ 0 = rw e in
          let r : (i : ℕ) × (i < n) × (p (suc i) ≡ true) = count_some n (λ i. p (suc i)) (omega (arith, z, h)) in
          (suc r.0, suc-le-suc r.1, r.2)
    ]

parts_of : (a b : Bool) → to_ℕ a ≡ to_ℕ (a && b) + to_ℕ (a && not b)
parts_of true true = refl
parts_of true false = refl
parts_of false b = refl

-- those that pass one test are those that pass another test too and those that do not
pub count_split : (n : ℕ) (p q : ℕ → Bool) → count n p ≡ count n (λ i. p i && q i) + count n (λ i. p i && not (q i))
unfolding count
count_split zero p q = refl
count_split (suc n) p q = omega (arith, parts_of (p 0) (q 0), count_split n (λ i. p (suc i)) (λ i. q (suc i)))

-- a test that passes wherever another does, and once more, passes more often
pub count_less : (n : ℕ) (p q : ℕ → Bool) → ((i : ℕ) → i < n → p i ≡ true → q i ≡ true)
    → (k : ℕ) → k < n → p k ≡ false → q k ≡ true → count n p < count n q
unfolding count
count_less zero p q h k l np yq = absurd (not-suc-le-zero l)
count_less (suc n) p q h zero l np yq =
    let e : to_ℕ (p 0) ≡ 0 = rw np in
    let f : to_ℕ (q 0) ≡ 1 = rw yq in
    omega (arith, e, f, count_mono n (λ i. p (suc i)) (λ i. q (suc i)) (λ i m. h (suc i) (suc-le-suc m)))
count_less (suc n) p q h (suc k) l np yq =
    omega
    (arith, to_ℕ_mono (p 0) (q 0) (h 0 (suc-le-suc zero-le)), count_less n (λ i. p (suc i)) (λ i. q (suc i)) (λ i m. h (suc i) (suc-le-suc m)) k (le_of_suc-le-suc l) np yq)

-- so if it passes no more often, the other passes wherever it does
pub count-back : (n : ℕ) (p q : ℕ → Bool) → ((i : ℕ) → i < n → p i ≡ true → q i ≡ true)
    → count n q ≤ count n p → (i : ℕ) → i < n → q i ≡ true → p i ≡ true
count-back n p q h le i l yq =
    elim (test (p i)) [
      | inl e ↦ e
      | inr e ↦ absurd (not-le_of_lt (count_less n p q h i l e yq) le)
    ]

-- more places, none of which passes
pub count_more : (n m : ℕ) (p : ℕ → Bool) → n ≤ m → ((i : ℕ) → n ≤ i → i < m → p i ≡ false) → count m p ≡ count n p
unfolding count
count_more zero m p l h = count_none m p (λ i k. h i zero-le k)
count_more (suc n) zero p l h = absurd (not-suc-le-zero l)
count_more (suc n) (suc m) p l h =
    ap (λ (c : ℕ). to_ℕ (p 0) + c) (count_more n m (λ i. p (suc i)) (le_of_suc-le-suc l) (λ i a b. h (suc i) (suc-le-suc a) (suc-le-suc b)))

-- the last place apart
pub count_last : (n : ℕ) (p : ℕ → Bool) → count (suc n) p ≡ count n p + to_ℕ (p n)
unfolding count
count_last zero p = omega arith
count_last (suc n) p = omega (arith, count_last n (λ i. p (suc i)))

-- one place apart
pub count_at : (n : ℕ) (p : ℕ → Bool) (k : ℕ) → k < n → count n p ≡ to_ℕ (p k) + count n (λ i. p i && not (eqb i k))
unfolding count
count_at zero p k h = absurd (not-suc-le-zero h)
count_at (suc n) p zero h =
    let e : to_ℕ (p 0 && not (eqb 0 0)) ≡ 0 = ap to_ℕ (and_no (p 0) (not (eqb 0 0)) refl) in
    omega (arith, e, count_ext n (λ i. p (suc i)) (λ i. p (suc i) && not (eqb (suc i) 0)) (λ i l. sym (and_yes (p (suc i)) (not (eqb (suc i) 0)) (ap not (eqb-suc-zero i)))))
count_at (suc n) p (suc k) h =
    omega (
      arith,
      ap to_ℕ (and_yes (p 0) (not (eqb 0 (suc k))) (ap not (eqb-zero-suc k))),
      count_at n (λ i. p (suc i)) k (le_of_suc-le-suc h),
      count_ext n (λ i. p (suc i) && not (eqb (suc i) (suc k))) (λ i. p (suc i) && not (eqb i k)) (λ i l. ap (λ (b : Bool). p (suc i) && not b) (eqb-suc-suc i k)),
    )
