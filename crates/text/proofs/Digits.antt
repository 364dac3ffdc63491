-- Laws of decimal digits as they are printed: the last one apart, and how many there are.
-- Assumes nothing.
use mathlib.Core.Path.{◌≡◌, refl, sym, ap, ◌∙◌}
use mathlib.Core.Logic.{◌⊎◌, inl, inr}
use mathlib.Core.Bool.{Bool, true, false}
use mathlib.Core.List.{List, [], ◌∷◌, ◌++◌}
use Prim.Native.Nat.{ℕ, zero, suc, ◌+◌, ◌*◌, ◌/◌, ◌%◌, ◌-◌, ◌^◌, ◌≤◌, ◌<◌, zero-le, suc-le-suc}
use native.Mathlib.Nat.{pow-suc, one-le-pow, not-suc-le-zero, le_of_suc-le-suc, div-lt_iff_lt-mul, le-div_iff_mul-le}
use native.Mathlib.Numerals.{add-one}
use native.Mathlib.Omega.{arith}
use borrow.Author.Tests.{ltb-true, ltb-false, lt-ltb, le-ltb}
use lib.Dec.{ltb}
use lib.ListN.{length, get_or, set, length-append, length-set}
use lib.Seq.{sets}
use Rattle.lists.specs.Tabulate.{tab}
use Rattle.lists.proofs.Bools.{test}
use Rattle.lists.proofs.Stores.{sets_last}
use Rattle.lists.proofs.Tabulate.{get_or-tab}
use Rattle.text.specs.Lines.{digits}

-- the last digit, and those before it if there are any
abbrev ending : Bool → List ℕ → ℕ → List ℕ
ending last before n = elim last [ true ↦ (48 + n) ∷ [] | false ↦ before ++ ((48 + n % 10) ∷ []) ]

pub single : (f n : ℕ) → n < 10 → digits (suc f) n ≡ (48 + n) ∷ []
unfolding digits
single f n h = ap (λ (b : Bool). ending b (digits f (n / 10)) n) (lt-ltb n 10 h)

pub several : (f n : ℕ) → 10 ≤ n → digits (suc f) n ≡ digits f (n / 10) ++ ((48 + n % 10) ∷ [])
unfolding digits
several f n h = ap (λ (b : Bool). ending b (digits f (n / 10)) n) (le-ltb n 10 h)

-- a tenth of a number has a digit less
pub tenth : (k n : ℕ) → n < 10 ^ suc k → n / 10 < 10 ^ k
tenth k n h = (div-lt_iff_lt-mul (suc-le-suc zero-le)).1 (rw pow-suc at h)

-- with the most digits one more, nothing changes
more : (f n : ℕ) → n < 10 ^ suc f → digits (suc (suc f)) n ≡ digits (suc f) n
unfolding digits
more zero n h = single 1 n h ∙ sym (single 0 n h)
more (suc f) n h = ap (λ (l : List ℕ). ending (ltb n 10) l n) (more f (n / 10) (tenth (suc f) n h))

pub digits-one : (n : ℕ) → n < 10 → digits 10 n ≡ (48 + n) ∷ []
digits-one n h = single 9 n h

pub digits_more : (n : ℕ) → 9 < n → n < 4294967296 → digits 10 n ≡ digits 10 (n / 10) ++ ((48 + n % 10) ∷ [])
digits_more n h fits =
    let small : n / 10 < 10 ^ 9 = omega arith in
    several 9 n h ∙ ap (λ (l : List ℕ). l ++ ((48 + n % 10) ∷ [])) (sym (more 8 (n / 10) small))

-- a number below 10 to the power k + 1 has at most k + 1 digits
pub digits_most : (k f n : ℕ) → n < 10 ^ suc k → length (digits f n) ≤ suc k
unfolding digits
digits_most k zero n h = zero-le
digits_most zero (suc f) n h = rw (single f n h) (omega arith)
digits_most (suc k) (suc f) n h = at (test (ltb n 10)) (digits_most k f (n / 10) (tenth (suc k) n h))
  where
    at : (ltb n 10 ≡ true) ⊎ (ltb n 10 ≡ false) → length (digits f (n / 10)) ≤ suc k → length (digits (suc f) n) ≤ suc (suc k)
    at (inl e) b = rw (single f n (ltb-true n 10 e)) (omega arith)
    at (inr e) b = rw (several f n (ltb-false n 10 e)) (simp length-append (omega arith))

pub one_more : (n : ℕ) → 9 < n → n < 4294967296 → length (digits 10 n) ≡ length (digits 10 (n / 10)) + 1
one_more n h fits = ap length (digits_more n h fits) ∙ length-append (digits 10 (n / 10)) ((48 + n % 10) ∷ [])

pub at_most_ten : (n : ℕ) → n < 4294967296 → length (digits 10 n) ≤ 10
at_most_ten n fits = let h : n < 10 ^ 10 = omega arith in digits_most 9 10 n h

-- there is a digit
pub has_digit : (n : ℕ) → n < 4294967296 → 1 ≤ length (digits 10 n)
has_digit n fits = elim (test (ltb n 10)) [
  | inl e ↦ rw (digits-one n (ltb-true n 10 e)) (omega arith)
  | inr e ↦ omega (arith, one_more n (ltb-false n 10 e) fits)
]

-- a number from 10 to the power k on, and below ten times that, has k + 1 digits
pub digits_exact : (k f n : ℕ) → k < f → 10 ^ k ≤ n → n < 10 ^ suc k → length (digits f n) ≡ suc k
digits_exact k zero n less low high = absurd (not-suc-le-zero less)
digits_exact zero (suc f) n less low high = ap length (single f n high)
digits_exact (suc k) (suc f) n less low high =
    let tenth_low : 10 ^ k ≤ n / 10 = (le-div_iff_mul-le (suc-le-suc zero-le)).1 (rw pow-suc at low) in
    let ten : 10 ≤ n = let (step, some) : (10 ^ suc k ≡ 10 ^ k * 10) × (1 ≤ 10 ^ k) = (pow-suc 10 k, one-le-pow k 10 (suc-le-suc zero-le)) in omega (arith, low, step, some) in
    ap length (several f n ten)
    ∙ length-append (digits f (n / 10)) ((48 + n % 10) ∷ [])
    ∙ omega (arith, digits_exact k f (n / 10) (le_of_suc-le-suc less) tenth_low (tenth (suc k) n high))

-- the powers of ten, from 10 on
abbrev pub tens : List ℕ
tens = 10 ∷ 100 ∷ 1000 ∷ 10000 ∷ 100000 ∷ 1000000 ∷ 10000000 ∷ 100000000 ∷ 1000000000 ∷ []

power_at : (k : ℕ) → k < 9 → get_or tens k 0 ≡ 10 ^ suc k
unfolding tab
power_at k h = get_or-tab 9 (λ i. 10 ^ suc i) k 0 h

-- one digit, and one more for each of the first k powers of ten that the number reaches
pub record Counted (n k count : ℕ) : Type 0 where
  pub reached : 10 ^ k ≤ n → count ≡ suc k
  pub beyond : n < 10 ^ k → count ≡ length (digits 10 n)
  pub few : count ≤ suc k

pub counted_none : (n : ℕ) → Counted n 0 1
counted_none n = record { reached = λ _. refl; beyond = λ h. sym (ap length (digits-one n (omega (arith, h)))); few = omega arith }

module _ {n k count : ℕ} (c : Counted n k count) (less : k < 9) where
  pub counted_more : get_or tens k 0 ≤ n → Counted n (k + 1) (count + 1)
  counted_more h =
      let now : 10 ^ suc k ≤ n = rw (power_at k less) at h in
      rw add-one (record {
        reached = λ _. omega (arith, c.reached (omega (arith, now, pow-suc 10 k)));
        beyond = λ low. absurd (omega (arith, now, low));
        few = omega (arith, c.few);
      })

  pub counted_same : n < get_or tens k 0 → Counted n (k + 1) count
  counted_same h =
      let now : n < 10 ^ suc k = rw (power_at k less) at h in
      rw add-one (record {
        reached = λ high. absurd (omega (arith, now, high));
        beyond = λ _. elim (test (ltb n (10 ^ k))) [
          | inl e ↦ c.beyond (ltb-true n (10 ^ k) e)
          | inr e ↦ let high : 10 ^ k ≤ n = ltb-false n (10 ^ k) e in c.reached high ∙ sym (digits_exact k 10 n (omega (arith, less)) high now)
        ];
        few = omega (arith, c.few);
      })

  -- so at the first power that is not reached the count is that of the digits
  pub counted_done : n < get_or tens k 0 → count ≡ length (digits 10 n)
  counted_done h = let now : n < 10 ^ suc k = rw (power_at k less) at h in (counted_same h).beyond (rw add-one now)

pub counted_all : {n k count : ℕ} → Counted n k count → k ≡ 9 → n < 4294967296 → count ≡ length (digits 10 n)
counted_all {n} {k} {count} c e fits = elim (test (ltb n (10 ^ k))) [
  | inl f ↦ c.beyond (ltb-true n (10 ^ k) f)
  | inr f ↦
      let high : 10 ^ k ≤ n = ltb-false n (10 ^ k) f in
      c.reached high ∙ sym (digits_exact k 10 n (omega (arith, e)) high (rw e (omega (arith, fits))))
]

-- digits stored from the last down: those of the rest are left to store, before place i
pub record Left (n at : ℕ) (before output : List ℕ) (i rest : ℕ) : Type 0 where
  pub fits : rest < 4294967296
  pub place : i ≡ at + length (digits 10 rest)
  pub inside : i ≤ length before
  pub long : length output ≡ length before
  pub stores : sets output at (digits 10 rest) ≡ sets before at (digits 10 n)

module _ {n at : ℕ} {before output : List ℕ} {i rest : ℕ} (l : Left n at before output i rest) where
  -- a digit is left
  pub left-place : at < i
  left-place = omega (arith, l.place, has_digit rest l.fits)

  pub left_next : 9 < rest → Left n at before (set output (i - 1) (48 + rest % 10)) (i - 1) (rest / 10)
  left_next h =
      let p : i - 1 ≡ at + length (digits 10 (rest / 10)) = omega (arith, l.place, one_more rest h l.fits) in
      record {
        fits = omega (arith, l.fits);
        place = p;
        inside = omega (arith, l.inside);
        long = length-set output (i - 1) (48 + rest % 10) ∙ l.long;
        stores =
            ap (λ (k : ℕ). sets (set output k (48 + rest % 10)) at (digits 10 (rest / 10))) p
            ∙ sym (sets_last output (digits 10 (rest / 10)) (48 + rest % 10) at)
            ∙ ap (sets output at) (sym (digits_more rest h l.fits))
            ∙ l.stores;
      }

  -- the first digit, which is the last one to store
  module _ (h : rest < 10) where
    pub left_one : i - 1 ≡ at
    left_one =
        let one : length (digits 10 rest) ≡ 1 = ap length (digits-one rest h) in
        omega (arith, l.place, one)

    pub left_last : set output (i - 1) (48 + rest % 10) ≡ sets before at (digits 10 n)
    left_last =
        let d : rest % 10 ≡ rest = omega arith in
        rw (left_one, d) (ap (sets output at) (sym (digits-one rest h)) ∙ l.stores)

-- digits are left to store, or all are stored
pub data Storing (n at : ℕ) (before output : List ℕ) (i rest : ℕ) : Type 0 where
  left : Left n at before output i rest → Storing n at before output i rest
  done : i ≡ at → length output ≡ length before → output ≡ sets before at (digits 10 n) → Storing n at before output i rest

pub storing_first : (n at : ℕ) (before : List ℕ) (i : ℕ) → n < 4294967296 → i ≡ at + length (digits 10 n) → i ≤ length before → Storing n at before before i n
storing_first n at before i f p h = left (record { fits = f; place = p; inside = h; long = refl; stores = refl })

module _ {n at : ℕ} {before output : List ℕ} {i rest : ℕ} where
  pub storing_next : Storing n at before output i rest → at < i → Storing n at before (set output (i - 1) (48 + rest % 10)) (i - 1) (rest / 10)
  storing_next (done e h s) more = absurd (omega (arith, more, e))
  storing_next (left l) more = elim (test (ltb rest 10)) [
    | inl e ↦
        let h : rest < 10 = ltb-true rest 10 e in
        done (left_one l h) (length-set output (i - 1) (48 + rest % 10) ∙ l.long) (left_last l h)
    | inr e ↦ left (left_next l (ltb-false rest 10 e))
  ]

  pub storing_last : Storing n at before output i rest → i ≤ at → output ≡ sets before at (digits 10 n)
  storing_last (done e h s) none = s
  storing_last (left l) none = absurd (omega (arith, left-place l, none))
