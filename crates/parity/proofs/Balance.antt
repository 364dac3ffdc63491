-- The words of all n = 2t + 1 members lie on a polynomial of degree at most t exactly if the t sums are 0.
-- Assumes nothing.
use mathlib.Core.Path.{◌≡◌, refl, sym, ap, ◌∙◌, subst}
use mathlib.Core.Logic.{◌⊎◌, inl, inr}
use mathlib.Core.Bool.{Bool, true, cond}
use mathlib.Core.List.{List, [], ◌∷◌}
use Prim.Native.Nat.{ℕ, zero, suc, ◌+◌, ◌-◌, ◌*◌, ◌^◌, ◌≤◌, ◌<◌, zero-le}
use native.Mathlib.Nat.{not-suc-le-zero, le_of_suc-le-suc, le_of_eq, mul-zero, mul-one, pow-suc, pow-zero, le_refl}
use native.Mathlib.Decide.{dec_le}
use native.Mathlib.Omega.{arith}
use lib.Dec.{eqb}
use lib.ListN.{length}
use borrow.Author.Tests.{eqb-true, eq-eqb, ne_eqb}
use Rattle.lists.specs.Tabulate.{tab, all, sum_to}
use Rattle.lists.proofs.Sums.{sum_to_ext}
use Rattle.lists.proofs.Tabulate.{all_elim, all_intro, length-tab}
use Rattle.field.specs.Field.{prime, product, power, inverse}
use Rattle.field.proofs.Congruence.{◌≈◌, same_refl, same_sym, same_trans, same_eq, eq_same, mult, times, ◌⊗◌, lc}
use Rattle.field.proofs.Fermat.{cancel}
use Rattle.polynomial.specs.Polynomial.{eval, interpolate}
use Rattle.polynomial.proofs.Evaluation.{value_same, value-word}
use Rattle.polynomial.proofs.Roots.{distinct_tab}
use Rattle.polynomial.proofs.Interpolation.{Meets, meets_more, meets, length-interpolate}
use Rattle.members.specs.Members.{size}
use Rattle.parity.specs.Parity.{factorial, sign, weight, parity, balanced, Lies}
use Rattle.parity.proofs.Sums.{same_sum, sum-zero, sum_one, sum_both_zero}
use Rattle.parity.proofs.Table.{station, is_weight, weight-not_0}

-- Weights that make 0 with the powers k, k + 1, .. of the points make 0 with the power k times every polynomial of as many coefficients.
one_more : (a p q c x e : ℕ) → q ≡ p * x → a * p * (c + x * e) ≡ c * (a * p) + 1 * (a * q * e)
one_more a p q c x e h = rw h (omega arith)

kills_step : (n k c : ℕ) (a x e : ℕ → ℕ) → sum_to n (λ i. a i * x i ^ k) ≈ 0 → sum_to n (λ i. a i * x i ^ suc k * e i) ≈ 0
    → sum_to n (λ i. a i * x i ^ k * (c + x i * e i)) ≈ 0
kills_step n k c a x e =
    sum_both_zero n c 1 (λ i. a i * x i ^ k) (λ i. a i * x i ^ suc k * e i) (λ i. a i * x i ^ k * (c + x i * e i))
    (λ i l. same_eq (one_more (a i) (x i ^ k) (x i ^ suc k) c (x i) (e i) (pow-suc (x i) k)))

inside : (k m n : ℕ) → suc k ≤ m → m < suc k + n → (k ≤ m) × (m < k + suc n)
inside k m n l r = (omega arith, omega arith)

here : (k n : ℕ) → k < k + suc n
here k n = omega arith

kills : (n : ℕ) (a x : ℕ → ℕ) (g : List ℕ) (k : ℕ) → ((m : ℕ) → k ≤ m → m < k + length g → sum_to n (λ i. a i * x i ^ m) ≈ 0)
    → sum_to n (λ i. a i * x i ^ k * eval g (x i)) ≈ 0
unfolding eval
kills n a x [] k h = sum-zero n (λ i. a i * x i ^ k * 0) (λ i l. same_eq (mul-zero (a i * x i ^ k)))
kills n a x (c ∷ cs) k h =
    kills_step n k c a x (λ i. eval cs (x i)) (h k (le_refl k) (here k (length cs)))
    (kills n a x cs (suc k) (λ m l r. h m (inside k m (length cs) l r).0 (inside k m (length cs) l r).1))

-- so from the power 0 on
power_0 : (a x e : ℕ) → a * e ≡ a * x ^ 0 * e
power_0 a x e = ap (λ (b : ℕ). b * e) (sym (ap (λ (p : ℕ). a * p) (pow-zero x) ∙ mul-one a))

pub kills_all : (n : ℕ) (a x : ℕ → ℕ) (g : List ℕ) → ((m : ℕ) → m < length g → sum_to n (λ i. a i * x i ^ m) ≈ 0) → sum_to n (λ i. a i * eval g (x i)) ≈ 0
kills_all n a x g h =
    same_trans (same_eq (sum_to_ext n (λ i. a i * eval g (x i)) (λ i. a i * x i ^ 0 * eval g (x i)) (λ i l. power_0 (a i) (x i) (eval g (x i)))))
    (kills n a x g 0 (λ m l r. h m (omega arith)))

-- The weights make 0 with the powers 0 to 2t − 1, by computing.
null : ℕ → Bool
null t = all (2 * t) (λ m. eqb (parity (size t) m (λ i. 1)) 0)

all_null : all 15 (λ k. null (suc k)) ≡ true
unfolding null all size parity sum_to weight factorial sign product inverse power
all_null = refl

-- the words are the polynomial's values, modulo p
pub lies_at : {t : ℕ} {y : ℕ → ℕ} → (l : Lies t y) → (i : ℕ) → i < size t → y i ≈ eval l.f (suc i)
lies_at l i h = same_trans (same_eq (sym (l.meets i h))) (value_same l.f (suc i))

module _ (t : ℕ) (low : 1 ≤ t) (high : t ≤ 15) where
  moment : (m : ℕ) → m < 2 * t → sum_to (size t) (λ i. weight (size t) i * suc i ^ m) ≈ 0
  unfolding null parity
  moment m h =
      let term : ℕ → ℕ = λ i. weight (size t) i * suc i ^ m in
      same_trans (same_eq (sum_to_ext (size t) term (λ i. term i * 1) (λ i l. sym (mul-one (term i)))))
      (record { same = eqb-true _ 0 (all_elim (2 * t) (λ m. eqb (parity (size t) m (λ i. 1)) 0) (station null all_null t low high) m h) })

  -- so with every polynomial of degree at most t, times a power below t
  moments : (f : List ℕ) (m : ℕ) → m + length f ≤ 2 * t → sum_to (size t) (λ i. weight (size t) i * suc i ^ m * eval f (suc i)) ≈ 0
  moments f m h = kills (size t) (weight (size t)) suc f m (λ k l r. moment k (omega arith))

  lies_sum : (y : ℕ → ℕ) → Lies t y → (m : ℕ) → m < t → sum_to (size t) (λ i. weight (size t) i * suc i ^ m * y i) ≈ 0
  lies_sum y l m h =
      same_trans
      (same_sum (size t) (λ i. weight (size t) i * suc i ^ m * y i) (λ i. weight (size t) i * suc i ^ m * eval l.f (suc i))
      (λ i k. times (weight (size t) i * suc i ^ m) (lies_at l i k)))
      (moments l.f m (omega (arith, l.degree)))

pub lies_balanced : (t : ℕ) → 1 ≤ t → t ≤ 15 → (y : ℕ → ℕ) → Lies t y → balanced t y ≡ true
unfolding balanced parity
lies_balanced t low high y l =
    all_intro t (λ m. eqb (parity (size t) m y) 0) (λ m h. eq-eqb (parity (size t) m y) 0 (lies_sum t low high y l m h).same)

-- n points in a row from b + 1 on: a polynomial of n coefficients that has given values there
record Through (n b : ℕ) (y : ℕ → ℕ) : Type 0 where
  f : List ℕ
  long : length f ≡ n
  goes : (i : ℕ) → b ≤ i → i < b + n → eval f (suc i) ≈ y i

meets_at : (f : List ℕ) (n : ℕ) (x y : ℕ → ℕ) → Meets f (tab n x) (tab n y) → (k : ℕ) → k < n → eval f (x k) ≈ y k
unfolding tab
meets_at f zero x y m k h = absurd (not-suc-le-zero h)
meets_at f (suc n) x y (meets_more e m) zero h = e
meets_at f (suc n) x y (meets_more e m) (suc k) h = meets_at f n (λ i. x (suc i)) (λ i. y (suc i)) m k (le_of_suc-le-suc h)

points_apart : (n b : ℕ) → b + n ≤ 65520 → (i j : ℕ) → i < n → j < n → suc (b + i) ≈ suc (b + j) → i ≡ j
points_apart n b small i j h k e = let q : suc (b + i) ≡ suc (b + j) = eq_same (omega arith) (omega arith) e in omega arith

through : (n b : ℕ) (y : ℕ → ℕ) → b + n ≤ 65520 → Through n b y
through n b y small =
    let xs : List ℕ = tab n (λ k. suc (b + k)) in
    let ys : List ℕ = tab n (λ k. y (b + k)) in
    let same : length ys ≡ length xs = length-tab n (λ k. y (b + k)) ∙ sym (length-tab n (λ k. suc (b + k))) in
    let at : (k : ℕ) → k < n → eval (interpolate xs ys) (suc (b + k)) ≈ y (b + k) =
    meets_at (interpolate xs ys) n (λ k. suc (b + k)) (λ k. y (b + k))
    (meets xs ys same (distinct_tab n (λ k. suc (b + k)) (points_apart n b small))) in
    record {
      f = interpolate xs ys;
      long = length-interpolate xs ys same ∙ length-tab n (λ k. suc (b + k));
      goes = λ i l h. subst (λ (m : ℕ). eval (interpolate xs ys) (suc m) ≈ y m) {x = b + (i - b)} (omega arith) (at (i - b) (omega arith));
    }

-- Now words that pass, and how far they are off a polynomial of degree at most t.
difference_0 : (y e : ℕ) → e ≈ y → y + 65520 * e ≈ 0
difference_0 y e h = lc (times 65520 h) (mult 0 y (omega arith))

difference_same : (y e : ℕ) → y + 65520 * e ≈ 0 → e ≈ y
difference_same y e h = same_sym (lc h (mult e 0 (omega arith)))

apart : (w p y e : ℕ) → w * (y + 65520 * e) * p ≡ 1 * (w * p * y) + 65520 * (w * p * e)
apart w p y e = omega arith

abbrev off : (ℕ → ℕ) → List ℕ → ℕ → ℕ
off y f i = y i + 65520 * eval f (suc i)

module _ (t : ℕ) (low : 1 ≤ t) (high : t ≤ 15) (y : ℕ → ℕ) (passes : balanced t y ≡ true) (f : List ℕ) (short : length f ≤ suc t) where
  off_sum : (m : ℕ) → m < t → sum_to (size t) (λ i. weight (size t) i * off y f i * suc i ^ m) ≈ 0
  unfolding balanced parity
  off_sum m h =
      sum_both_zero (size t) 1 65520 (λ i. weight (size t) i * suc i ^ m * y i) (λ i. weight (size t) i * suc i ^ m * eval f (suc i))
      (λ i. weight (size t) i * off y f i * suc i ^ m) (λ i l. same_eq (apart (weight (size t) i) (suc i ^ m) (y i) (eval f (suc i))))
      (record { same = eqb-true (parity (size t) m y) 0 (all_elim t (λ m. eqb (parity (size t) m y) 0) passes m h) })
      (moments t low high f m (omega arith))

  -- If it meets the first t + 1 words, it meets each other word: take a polynomial of t coefficients that is 1 there and 0 at the t − 1 others.
  off_zero : ((i : ℕ) → i ≤ t → off y f i ≈ 0) → (j : ℕ) → t < j → j < size t → off y f j ≈ 0
  unfolding size
  off_zero first j above below =
      let g : Through t (suc t) (λ i. cond (eqb i j) 1 0) = through t (suc t) (λ i. cond (eqb i j) 1 0) (omega arith) in
      let term : ℕ → ℕ = λ i. weight (size t) i * off y f i * eval g.f (suc i) in
      let whole : sum_to (size t) term ≈ 0 =
      kills_all (size t) (λ i. weight (size t) i * off y f i) suc g.f (λ m h. off_sum m (omega (arith, g.long))) in
      let others : (i : ℕ) → i < size t → (i ≡ j → ⊥) → term i ≈ 0 =
      λ i l d. elim (dec_le i t) [
        | yes k ↦ nothing (weight (size t) i) (off y f i) (eval g.f (suc i)) (inl (first i k))
        | no k ↦
            nothing (weight (size t) i) (off y f i) (eval g.f (suc i))
            (inr (same_trans (g.goes i (omega arith) (omega arith)) (same_eq (ap (λ (b : Bool). cond b 1 0) (ne_eqb i j d)))))
      ] in
      let one : eval g.f (suc j) ≈ 1 = same_trans (g.goes j above (omega arith)) (same_eq (ap (λ (b : Bool). cond b 1 0) (eq-eqb j j refl))) in
      cancel (weight (size t) j) (weight-not_0 (is_weight t j low high below))
      (only (weight (size t) j) (off y f j) (eval g.f (suc j)) one (same_trans (same_sym (sum_one (size t) term j below others)) whole))
    where
      nothing : (w u e : ℕ) → (u ≈ 0) ⊎ (e ≈ 0) → w * u * e ≈ 0
      nothing w u e (inl h) = same_trans (times w h ⊗ same_refl) (same_eq (omega arith))
      nothing w u e (inr h) = same_trans (times (w * u) h) (same_eq (mul-zero (w * u)))

      only : (w u e : ℕ) → e ≈ 1 → w * u * e ≈ 0 → w * u ≈ w * 0
      only w u e h z =
          same_trans (same_eq (sym (mul-one (w * u)))) (same_trans (times (w * u) (same_sym h)) (same_trans z (same_eq (sym (mul-zero w)))))

pub balanced_lies : (t : ℕ) → 1 ≤ t → t ≤ 15 → (y : ℕ → ℕ) → ((i : ℕ) → i < size t → y i < prime) → balanced t y ≡ true → Lies t y
balanced_lies t low high y words passes =
    let g : Through (suc t) 0 y = through (suc t) 0 y (omega arith) in
    let short : length g.f ≤ suc t = le_of_eq g.long in
    let first : (i : ℕ) → i ≤ t → off y g.f i ≈ 0 =
    λ i k. difference_0 (y i) (eval g.f (suc i)) (g.goes i zero-le (omega arith)) in
    let all-zero : (i : ℕ) → i < size t → off y g.f i ≈ 0 =
    λ i l. elim (dec_le i t) [ yes k ↦ first i k | no k ↦ off_zero t low high y passes g.f short first i (omega arith) l ] in
    record {
      f = g.f;
      degree = short;
      meets =
          λ i l. eq_same (value-word g.f (suc i)) (words i l)
          (same_trans (value_same g.f (suc i)) (difference_same (y i) (eval g.f (suc i)) (all-zero i l)));
    }
