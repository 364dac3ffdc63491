-- What holds of the two pairs after each member. Both meet every member of the set passed so far. N0 has exactly the degree a, and E0 is 0 wherever
-- a ≤ j + t; E1 has exactly the degree b, and N1 is 0 above b + t; a + b is at most the number of members passed; and b is 0
-- until t < a.
-- Assumes nothing.
use mathlib.Core.Path.{◌≡◌, refl, sym, ap, ◌∙◌, subst}
use mathlib.Core.Logic.{◌⊎◌, inl, inr}
use mathlib.Core.Bool.{Bool, true, false, cond, ◌||◌, not, true≢false}
use mathlib.Core.List.{List, ◌∷◌}
use Prim.Native.Nat.{ℕ, zero, suc, ◌+◌, ◌*◌, ◌≤◌, ◌<◌, zero-le}
use native.Mathlib.Nat.{not-suc-le-zero, le_trans, mul-zero}
use native.Mathlib.Decide.{dec_le}
use native.Mathlib.Omega.{arith}
use lib.Dec.{leb, eqb, lit<}
use lib.ListN.{length, get_or, take, replicate, length-replicate}
use lib.Seq.{length-take-le, get_or-take}
use borrow.Author.Tests.{eqb-true, eqb-false, leb-true, leb-false, not-true}
use Rattle.lists.specs.Tabulate.{count}
use Rattle.lists.proofs.Bools.{test, clash, and_left, and_right}
use Rattle.lists.proofs.Choose.{take-sub}
use Rattle.lists.proofs.Count.{to_ℕ, count-le, count_last}
use Rattle.field.specs.Field.{prime, difference, product}
use Rattle.field.proofs.Congruence.{◌≈◌, same_refl, same_sym, same_trans, same_eq, eq_same, mult, times, ◌⊕◌, lc}
use Rattle.field.proofs.Operations.{difference_same, difference-word, product_same}
use Rattle.polynomial.specs.Polynomial.{eval, value}
use Rattle.polynomial.proofs.Evaluation.{value_same}
use Rattle.polynomial.proofs.Roots.{distinct_sub, Distinct}
use Rattle.members.specs.Members.{has}
use Rattle.members.proofs.Listed.{passing}
use Rattle.locator.specs.Internal.Pairs.{raised, mixed, off_by, State, start, first_up, second_up, first_turn, step_by, stepped, passed}
use Rattle.locator.proofs.Points.{points_of, passing_points, count_points, at_points}
use Rattle.locator.proofs.Coefficients.{From, eval_low, no_coefficient, from_raised, raised_lead, raised_zeros, length-raised, eval-raised, length-mixed, eval-mixed, mixed-zero, mixed_lead}

-- ---- over numbers: a pair at a point passed before, and at the new one

old_mixed : (u v n₁ n₂ e₁ e₂ y : ℕ) → n₁ ≈ y * e₁ → n₂ ≈ y * e₂ → u * n₁ + v * n₂ ≈ y * (u * e₁ + v * e₂)
old_mixed u v n₁ n₂ e₁ e₂ y h k = lc (times u h ⊕ times v k) (same_eq (omega arith))

old_raised : (r n e y : ℕ) → n ≈ y * e → r * n ≈ y * (r * e)
old_raised r n e y h = lc (times r h) (same_eq (omega arith))

new_raised : (x n e y : ℕ) → (x + 65520 * x) * n ≈ y * ((x + 65520 * x) * e)
new_raised x n e y = mult (y * (x * e)) (x * n) (omega arith)

new_mixed : (dp dq v np nq ep eq y : ℕ) → dp ≈ np + 65520 * (y * ep) → dq ≈ nq + 65520 * (y * eq) → v ≈ 65520 * dq → dp * nq + v * np ≈ y * (dp * eq + v * ep)
new_mixed dp dq v np nq ep eq y hp hq hv = close (back np ep dp hp) (back nq eq dq hq)
  where
    back : (n e d : ℕ) → d ≈ n + 65520 * (y * e) → n ≈ d + y * e
    back n e d h = lc (same_sym h) (mult (y * e) 0 (omega arith))

    close : np ≈ dp + y * ep → nq ≈ dq + y * eq → dp * nq + v * np ≈ y * (dp * eq + v * ep)
    close h k = lc (times dp k ⊕ times v h ⊕ times dp hv) (mult 0 (dp * dq) (omega arith))

pub off_same : (x y : ℕ) (n e : List ℕ) → off_by x y n e ≈ eval n x + 65520 * (y * eval e x)
unfolding off_by
off_same x y n e =
    same_trans (difference_same (value n x) (product y (value e x)))
    (value_same n x ⊕ times 65520 (same_trans (product_same y (value e x)) (times y (value_same e x))))

off_word : (x y : ℕ) (n e : List ℕ) → off_by x y n e < prime
unfolding off_by
off_word x y n e = difference-word (value n x) (product y (value e x))

-- a pair that is not off
not_off : (x y : ℕ) (n e : List ℕ) → off_by x y n e ≡ 0 → eval n x ≈ y * eval e x
not_off x y n e h = lc (same_trans (same_sym (off_same x y n e)) (same_eq h)) (mult (y * eval e x) 0 (omega arith))

-- what holds of each number below k and of k
extend : {P : ℕ → Type 0} (k : ℕ) → ((i : ℕ) → i < k → P i) → P k → (i : ℕ) → i < suc k → P i
extend {P = P} k h p i l = elim (dec_le (suc i) k) [ yes m ↦ h i m | no m ↦ subst P (omega arith) p ]

-- ---- the invariant

-- a pair meets the members of the set below k
pub record Met (xs : List ℕ) (y : ℕ → ℕ) (set k : ℕ) (n e : List ℕ) : Type 0 where
  pub at : (i : ℕ) → i < k → has set i ≡ true → eval n (get_or xs i 0) ≈ y i * eval e (get_or xs i 0)

pub record Holds (xs : List ℕ) (t : ℕ) (y : ℕ → ℕ) (set len k : ℕ) (s : State) : Type 0 where
  pub long_n0 : length s.n0 ≡ suc len
  pub long_e0 : length s.e0 ≡ suc len
  pub long_n1 : length s.n1 ≡ suc len
  pub long_e1 : length s.e1 ≡ suc len
  pub met0 : Met xs y set k s.n0 s.e0
  pub met1 : Met xs y set k s.n1 s.e1
  pub lead0 : get_or s.n0 s.a 0 ≈ 0 → ⊥
  pub from_n0 : From (suc s.a) s.n0
  pub zeros_e0 : (j : ℕ) → s.a ≤ j + t → get_or s.e0 j 0 ≈ 0
  pub lead1 : get_or s.e1 s.b 0 ≈ 0 → ⊥
  pub from_e1 : From (suc s.b) s.e1
  pub from_n1 : From (suc (s.b + t)) s.n1
  pub degrees : s.a + s.b ≤ count k (has set)
  pub early : (s.b ≡ 0) ⊎ (t < s.a)

from_more : {m n : ℕ} {f : List ℕ} → m ≤ n → From m f → From n f
from_more l h = record { zeros = λ j k. h.zeros j (le_trans l k) }

-- values put in place of what they are the same as
both_sides : {n e n' e' : ℕ} (y : ℕ) → n ≈ n' → e ≈ e' → n' ≈ y * e' → n ≈ y * e
both_sides y hn he h = same_trans hn (same_trans h (times y (same_sym he)))

module _ (xs : List ℕ) (y : ℕ → ℕ) (set k : ℕ) where
  -- the raised pair meets the next member too
  met_raised : (n e : List ℕ) (p q : ℕ) → Met xs y set k n e → From p n → p < length n → From q e → q < length e
      → Met xs y set (suc k) (raised (get_or xs k 0) 0 n) (raised (get_or xs k 0) 0 e)
  met_raised n e p q h fn ln fe le =
      let x : ℕ = get_or xs k 0 in
      record {
        at =
            extend k
            (λ i l m. both_sides (y i) (eval-raised x p n (get_or xs i 0) fn ln) (eval-raised x q e (get_or xs i 0) fe le)
            (old_raised (get_or xs i 0 + 65520 * x) (eval n (get_or xs i 0)) (eval e (get_or xs i 0)) (y i) (h.at i l m)))
            (λ m. both_sides (y k) (eval-raised x p n x fn ln) (eval-raised x q e x fe le) (new_raised x (eval n x) (eval e x) (y k)));
      }

  -- and so does the freed pair (n, e), by the raised one (m, f)
  met_freed : (n e m f : List ℕ) (dp dq : ℕ) → Met xs y set k n e → Met xs y set k m f → length n ≡ length m → length e ≡ length f
      → dp ≈ eval m (get_or xs k 0) + 65520 * (y k * eval f (get_or xs k 0)) → dq ≈ eval n (get_or xs k 0) + 65520 * (y k * eval e (get_or xs k 0))
      → Met xs y set (suc k) (mixed dp n (difference 0 dq) m) (mixed dp e (difference 0 dq) f)
  met_freed n e m f dp dq h g ln le hp hq =
      let x : ℕ = get_or xs k 0 in
      let v : ℕ = difference 0 dq in
      record {
        at =
            extend k
            (λ i l b. both_sides (y i) (eval-mixed dp n v m ln (get_or xs i 0)) (eval-mixed dp e v f le (get_or xs i 0))
            (old_mixed dp v (eval n (get_or xs i 0)) (eval m (get_or xs i 0)) (eval e (get_or xs i 0)) (eval f (get_or xs i 0)) (y i) (h.at i l b) (g.at i l b)))
            (λ b. both_sides (y k) (eval-mixed dp n v m ln x) (eval-mixed dp e v f le x)
            (new_mixed dp dq v (eval m x) (eval n x) (eval f x) (eval e x) (y k) hp hq (same_trans (difference_same 0 dq) (same_eq (omega arith)))));
      }

minus_0 : (d : ℕ) → d ≡ 0 → difference 0 d ≈ 0
minus_0 d e = same_trans (difference_same 0 d) (same_trans (same_eq (ap (λ (n : ℕ). 0 + 65520 * n) e)) same_refl)

not_0 : (d : ℕ) → d < prime → (d ≡ 0 → ⊥) → d ≈ 0 → ⊥
not_0 d l n h = n (eq_same l (lit< tt) h)

module _ (xs : List ℕ) (t : ℕ) (y : ℕ → ℕ) (set len k : ℕ) (small : t < len) (room : k < len) (in_set : has set k ≡ true) (s : State) (H : Holds xs t y set len k s) where
  -- the degrees leave room for one more coefficient, and may grow by one in all
  fits_a : suc s.a < suc len
  fits_a = omega (arith, H.degrees, count-le k (has set))

  fits_b : suc (s.b + t) < suc len
  fits_b = elim H.early [ inl e ↦ omega arith | inr e ↦ omega (arith, H.degrees, count-le k (has set)) ]

  one_more : suc (s.a + s.b) ≤ count (suc k) (has set)
  one_more =
      let e : to_ℕ (has set k) ≡ 1 = rw in_set in
      omega (arith, H.degrees, count_last k (has set), e)

  long : {m l : ℕ} → l ≡ suc len → m < suc len → m < l
  long e h = omega arith

  module _ (d0 d1 : ℕ) (h0 : d0 ≈ eval s.n0 (get_or xs k 0) + 65520 * (y k * eval s.e0 (get_or xs k 0)))
      (h1 : d1 ≈ eval s.n1 (get_or xs k 0) + 65520 * (y k * eval s.e1 (get_or xs k 0))) where
    first_holds : (d0 ≈ 0 → ⊥) → (d1 ≡ 0) ⊎ (s.a ≤ s.b + t) → Holds xs t y set len (suc k) (first_up (get_or xs k 0) d0 d1 s)
    unfolding first_up
    first_holds ne o =
        let v : ℕ = difference 0 d1 in
        let ln : length s.n1 ≡ length s.n0 = H.long_n1 ∙ sym H.long_n0 in
        let le : length s.e1 ≡ length s.e0 = H.long_e1 ∙ sym H.long_e0 in
        let from_e0 : From s.a s.e0 = record { zeros = λ j l. H.zeros_e0 j (omega arith) } in
        let faint_e : (j : ℕ) → s.b ≤ j → (v ≈ 0) ⊎ (get_or s.e0 j 0 ≈ 0) =
        λ j l. elim o [ inl e ↦ inl (minus_0 d1 e) | inr g ↦ inr (H.zeros_e0 j (omega arith)) ] in
        let faint_n : (j : ℕ) → suc (s.b + t) ≤ j → (v ≈ 0) ⊎ (get_or s.n0 j 0 ≈ 0) =
        λ j l. elim o [ inl e ↦ inl (minus_0 d1 e) | inr g ↦ inr (H.from_n0.zeros j (omega arith)) ] in
        record {
          long_n0 = length-raised (get_or xs k 0) 0 s.n0 ∙ H.long_n0;
          long_e0 = length-raised (get_or xs k 0) 0 s.e0 ∙ H.long_e0;
          long_n1 = length-mixed d0 s.n1 v s.n0 ln ∙ H.long_n1;
          long_e1 = length-mixed d0 s.e1 v s.e0 le ∙ H.long_e1;
          met0 = met_raised xs y set k s.n0 s.e0 (suc s.a) s.a H.met0 H.from_n0 (long H.long_n0 fits_a) from_e0 (long H.long_e0 (omega (arith, fits_a)));
          met1 = met_freed xs y set k s.n1 s.e1 s.n0 s.e0 d0 d1 H.met1 H.met0 ln le h0 h1;
          lead0 = λ e. H.lead0 (same_trans (same_sym (raised_lead (get_or xs k 0) 0 s.a s.n0 H.from_n0 (long H.long_n0 fits_a))) e);
          from_n0 = from_raised (get_or xs k 0) 0 (suc s.a) s.n0 H.from_n0;
          zeros_e0 = raised_zeros (get_or xs k 0) s.a t s.e0 H.zeros_e0;
          lead1 = mixed_lead d0 s.e1 v s.e0 le s.b (faint_e s.b (omega arith)) ne H.lead1;
          from_e1 = record { zeros = λ j l. mixed-zero d0 s.e1 v s.e0 le j (faint_e j (omega arith)) (H.from_e1.zeros j l) };
          from_n1 = record { zeros = λ j l. mixed-zero d0 s.n1 v s.n0 ln j (faint_n j l) (H.from_n1.zeros j l) };
          degrees = omega (arith, one_more);
          early = elim H.early [ inl e ↦ inl e | inr e ↦ inr (omega arith) ];
        }

    second_holds : (d1 ≈ 0 → ⊥) → (d0 ≡ 0) ⊎ (s.b + t < s.a) → t < s.a → Holds xs t y set len (suc k) (second_up (get_or xs k 0) d0 d1 s)
    unfolding second_up
    second_holds ne o late =
        let v : ℕ = difference 0 d0 in
        let ln : length s.n0 ≡ length s.n1 = H.long_n0 ∙ sym H.long_n1 in
        let le : length s.e0 ≡ length s.e1 = H.long_e0 ∙ sym H.long_e1 in
        let faint_e : (j : ℕ) → s.a ≤ j + t → (v ≈ 0) ⊎ (get_or s.e1 j 0 ≈ 0) =
        λ j l. elim o [ inl e ↦ inl (minus_0 d0 e) | inr g ↦ inr (H.from_e1.zeros j (omega arith)) ] in
        let faint_n : (j : ℕ) → s.a ≤ j → (v ≈ 0) ⊎ (get_or s.n1 j 0 ≈ 0) =
        λ j l. elim o [ inl e ↦ inl (minus_0 d0 e) | inr g ↦ inr (H.from_n1.zeros j (omega arith)) ] in
        record {
          long_n0 = length-mixed d1 s.n0 v s.n1 ln ∙ H.long_n0;
          long_e0 = length-mixed d1 s.e0 v s.e1 le ∙ H.long_e0;
          long_n1 = length-raised (get_or xs k 0) 0 s.n1 ∙ H.long_n1;
          long_e1 = length-raised (get_or xs k 0) 0 s.e1 ∙ H.long_e1;
          met0 = met_freed xs y set k s.n0 s.e0 s.n1 s.e1 d1 d0 H.met0 H.met1 ln le h1 h0;
          met1 = met_raised xs y set k s.n1 s.e1 (suc (s.b + t)) (suc s.b) H.met1 H.from_n1 (long H.long_n1 fits_b) H.from_e1 (long H.long_e1 (omega (arith, fits_b)));
          lead0 = mixed_lead d1 s.n0 v s.n1 ln s.a (faint_n s.a (omega arith)) ne H.lead0;
          from_n0 = record { zeros = λ j l. mixed-zero d1 s.n0 v s.n1 ln j (faint_n j (omega arith)) (H.from_n0.zeros j l) };
          zeros_e0 = λ j l. mixed-zero d1 s.e0 v s.e1 le j (faint_e j l) (H.zeros_e0 j l);
          lead1 = λ e. H.lead1 (same_trans (same_sym (raised_lead (get_or xs k 0) 0 s.b s.e1 H.from_e1 (long H.long_e1 (omega (arith, fits_b))))) e);
          from_e1 = from_raised (get_or xs k 0) 0 (suc s.b) s.e1 H.from_e1;
          from_n1 = from_more (omega arith) (from_raised (get_or xs k 0) 0 (suc (s.b + t)) s.n1 H.from_n1);
          degrees = omega (arith, one_more);
          early = inr late;
        }

-- which pair is raised
first_turn_lem : (t d0 d1 a b : ℕ) → first_turn t d0 d1 a b ≡ true → (d0 ≡ 0 → ⊥) × ((d1 ≡ 0) ⊎ (a ≤ b + t))
unfolding first_turn
first_turn_lem t d0 d1 a b h = (
  eqb-false d0 0 (not-true (eqb d0 0) (and_left (not (eqb d0 0)) (eqb d1 0 || leb a (b + t)) h)),
  elim (test (eqb d1 0)) [
    | inl e ↦ inl (eqb-true d1 0 e)
    | inr e ↦ inr (leb-true a (b + t) (or_right e (and_right (not (eqb d0 0)) (eqb d1 0 || leb a (b + t)) h)))
  ],
)
  where
    or_right : {p q : Bool} → p ≡ false → p || q ≡ true → q ≡ true
    or_right e g = rw e at g

second_turn : (t d0 d1 a b : ℕ) → first_turn t d0 d1 a b ≡ false → (d0 ≡ 0) ⊎ ((d1 ≡ 0 → ⊥) × (b + t < a))
unfolding first_turn
second_turn t d0 d1 a b h =
    elim (test (eqb d0 0)) [
      | inl e ↦ inl (eqb-true d0 0 e)
      | inr e ↦ inr (neither e (test (eqb d1 0)) (test (leb a (b + t))))
    ]
  where
    neither : eqb d0 0 ≡ false → (eqb d1 0 ≡ true) ⊎ (eqb d1 0 ≡ false) → (leb a (b + t) ≡ true) ⊎ (leb a (b + t) ≡ false) → (d1 ≡ 0 → ⊥) × (b + t < a)
    neither e (inl f) g = absurd (true≢false (rw (e, f) at h))
    neither e (inr f) (inl g) = absurd (true≢false (rw (e, f, g) at h))
    neither e (inr f) (inr g) = (eqb-false d1 0 f, leb-false a (b + t) g)

-- a member at which neither pair is off
stay : (xs : List ℕ) (t : ℕ) (y : ℕ → ℕ) (set len k : ℕ) (s : State) → Holds xs t y set len k s
    → (has set k ≡ true → eval s.n0 (get_or xs k 0) ≈ y k * eval s.e0 (get_or xs k 0))
    → (has set k ≡ true → eval s.n1 (get_or xs k 0) ≈ y k * eval s.e1 (get_or xs k 0)) → Holds xs t y set len (suc k) s
stay xs t y set len k s H h0 h1 =
    record {
      long_n0 = H.long_n0;
      long_e0 = H.long_e0;
      long_n1 = H.long_n1;
      long_e1 = H.long_e1;
      met0 = record { at = extend k H.met0.at h0 };
      met1 = record { at = extend k H.met1.at h1 };
      lead0 = H.lead0;
      from_n0 = H.from_n0;
      zeros_e0 = H.zeros_e0;
      lead1 = H.lead1;
      from_e1 = H.from_e1;
      from_n1 = H.from_n1;
      degrees = omega (arith, H.degrees, count_last k (has set));
      early = H.early;
    }

-- where the first pair is not off, t < a: else E0 is 0, and N0 has more roots than its degree
past : (xs : List ℕ) → Distinct xs → (t : ℕ) (y : ℕ → ℕ) (set len k : ℕ) → k < length xs → has set k ≡ true → (s : State) → Holds xs t y set len k s
    → off_by (get_or xs k 0) (y k) s.n0 s.e0 ≡ 0 → t < s.a
past xs distinct t y set len k inside in_set s H off =
    elim H.early [
      | inr l ↦ l
      | inl e ↦
          elim (dec_le (suc t) s.a) [
            | yes l ↦ l
            | no l ↦
                let zs : List ℕ = take (suc k) xs in
                let lz : length zs ≡ suc k = length-take-le (suc k) xs inside in
                let apart : Distinct zs = distinct_sub (take-sub (suc k) xs) distinct in
                let none_e : (z : ℕ) → eval s.e0 z ≈ 0 = λ z. eval_low s.e0 z (record { zeros = λ j m. H.zeros_e0 j (omega arith) }) in
                let more : to_ℕ (has set k) ≡ 1 = rw in_set in
                absurd (H.lead0
                (no_coefficient (points_of zs (passing (suc k) (has set))) s.n0 (suc s.a) H.from_n0
                (omega (arith, count_points zs (suc k) lz apart (has set), H.degrees, count_last k (has set)))
                (passing_points zs (suc k) lz apart (has set))
                (at_points zs (suc k) lz apart (has set)
                (λ i m h. subst (λ (z : ℕ). eval s.n0 z ≈ 0) (sym (get_or-take (suc k) xs i 0 m))
                (same_trans (extend k H.met0.at (λ b. not_off (get_or xs k 0) (y k) s.n0 s.e0 off) i m h)
                (same_trans (times (y i) (none_e (get_or xs i 0))) (same_eq (mul-zero (y i)))))))
                s.a (omega arith)))
          ]
    ]

step_holds : (xs : List ℕ) → Distinct xs → (t : ℕ) (y : ℕ → ℕ) (set len k : ℕ) → k < length xs → t < len → k < len → has set k ≡ true
    → (s : State) → Holds xs t y set len k s
    → Holds xs t y set len (suc k) (stepped t (get_or xs k 0) (y k) s)
unfolding stepped step_by
step_holds xs distinct t y set len k inside small room in_set s H = pick (first_turn t d0 d1 s.a s.b) (eqb d1 0) refl refl
  where
    d0 : ℕ
    d0 = off_by (get_or xs k 0) (y k) s.n0 s.e0

    d1 : ℕ
    d1 = off_by (get_or xs k 0) (y k) s.n1 s.e1

    raise_second : (d1 ≡ 0 → ⊥) → (d0 ≡ 0) ⊎ ((d1 ≡ 0 → ⊥) × (s.b + t < s.a)) → Holds xs t y set len (suc k) (second_up (get_or xs k 0) d0 d1 s)
    raise_second ne o =
        second_holds xs t y set len k small room in_set s H d0 d1
        (off_same (get_or xs k 0) (y k) s.n0 s.e0)
        (off_same (get_or xs k 0) (y k) s.n1 s.e1)
        (not_0 d1 (off_word (get_or xs k 0) (y k) s.n1 s.e1) ne)
        (elim o [ inl e ↦ inl e | inr e ↦ inr e.1 ])
        (elim o [ inl e ↦ past xs distinct t y set len k inside in_set s H e | inr e ↦ omega (arith, e.1) ])

    keep_both : d1 ≡ 0 → (d0 ≡ 0) ⊎ ((d1 ≡ 0 → ⊥) × (s.b + t < s.a)) → Holds xs t y set len (suc k) s
    keep_both z (inl e) = stay xs t y set len k s H (λ m. not_off (get_or xs k 0) (y k) s.n0 s.e0 e) (λ m. not_off (get_or xs k 0) (y k) s.n1 s.e1 z)
    keep_both z (inr e) = absurd (e.0 z)

    pick : (b c : Bool) → first_turn t d0 d1 s.a s.b ≡ b → eqb d1 0 ≡ c
        → Holds xs t y set len (suc k) (cond b (first_up (get_or xs k 0) d0 d1 s) (cond c s (second_up (get_or xs k 0) d0 d1 s)))
    pick true c e f =
        let r = first_turn_lem t d0 d1 s.a s.b e in
        first_holds xs t y set len k small room in_set s H d0 d1
        (off_same (get_or xs k 0) (y k) s.n0 s.e0)
        (off_same (get_or xs k 0) (y k) s.n1 s.e1)
        (not_0 d0 (off_word (get_or xs k 0) (y k) s.n0 s.e0) r.0)
        r.1
    pick false true e f = keep_both (eqb-true d1 0 f) (second_turn t d0 d1 s.a s.b e)
    pick false false e f = raise_second (eqb-false d1 0 f) (second_turn t d0 d1 s.a s.b e)

zeros_of : (n : ℕ) (j : ℕ) → get_or (replicate n 0) j 0 ≈ 0
zeros_of zero j = same_refl
zeros_of (suc n) zero = same_refl
zeros_of (suc n) (suc j) = zeros_of n j

start_holds : (xs : List ℕ) (t : ℕ) (y : ℕ → ℕ) (set len : ℕ) → Holds xs t y set len 0 (start len)
unfolding start
start_holds xs t y set len =
    record {
      long_n0 = ap suc (length-replicate len 0);
      long_e0 = length-replicate (suc len) 0;
      long_n1 = length-replicate (suc len) 0;
      long_e1 = ap suc (length-replicate len 0);
      met0 = record { at = λ i l. absurd (not-suc-le-zero l) };
      met1 = record { at = λ i l. absurd (not-suc-le-zero l) };
      lead0 = λ e. one-not e;
      from_n0 = record { zeros = one };
      zeros_e0 = λ j l. zeros_of (suc len) j;
      lead1 = λ e. one-not e;
      from_e1 = record { zeros = one };
      from_n1 = record { zeros = λ j l. zeros_of (suc len) j };
      degrees = zero-le;
      early = inl refl;
    }
  where
    one-not : 1 ≈ 0 → ⊥
    one-not e = omega arith

    one : (j : ℕ) → 1 ≤ j → get_or (1 ∷ replicate len 0) j 0 ≈ 0
    one zero l = absurd (not-suc-le-zero l)
    one (suc j) l = zeros_of len j

pub passed_holds : (xs : List ℕ) → Distinct xs → (t : ℕ) (y : ℕ → ℕ) (set len : ℕ) → t < len → (k : ℕ) → k ≤ length xs → k ≤ len
    → Holds xs t y set len k (passed xs t y set len k)
unfolding passed
passed_holds xs distinct t y set len small zero inside room = start_holds xs t y set len
passed_holds xs distinct t y set len small (suc k) inside room = at (has set k) refl (passed_holds xs distinct t y set len small k (omega arith) (omega arith))
  where
    at : (b : Bool) → has set k ≡ b → Holds xs t y set len k (passed xs t y set len k)
        → Holds xs t y set len (suc k) (cond b (stepped t (get_or xs k 0) (y k) (passed xs t y set len k)) (passed xs t y set len k))
    at true e H = step_holds xs distinct t y set len k inside small room e (passed xs t y set len k) H
    at false e H = stay xs t y set len k (passed xs t y set len k) H (λ m. absurd (clash m e)) (λ m. absurd (clash m e))
