-- Lagrange: for distinct points, polynomials that are 1 at one point each and 0 at the others add up, times values, to the interpolated polynomial.
-- So the row of their values at z gives its value at z.
-- Assumes nothing.
use mathlib.Core.Path.{◌≡◌, refl, sym, ap, ◌∙◌, subst}
use mathlib.Core.Logic.{inl, inr}
use mathlib.Core.Bool.{cond}
use mathlib.Core.List.{List, [], ◌∷◌}
use Prim.Native.Nat.{ℕ, zero, suc, ◌+◌, ◌*◌, ◌%◌, ◌≤◌, ◌<◌, zero-le, suc-le-suc}
use native.Mathlib.Nat.{not-suc-le-zero, le_of_suc-le-suc, le_of_eq, suc-ne-zero, suc_inj}
use native.Mathlib.Numerals.{add-one}
use native.Mathlib.Omega.{arith}
use lib.Dec.{eqb}
use lib.ListN.{length, get_or, take, drop, length-append, length-drop}
use lib.Seq.{length-take-le}
use borrow.Author.Tests.{eqb-true, eqb-false}
use Rattle.lists.specs.Tabulate.{tab}
use Rattle.lists.proofs.Blocks.{every_tab}
use Rattle.lists.proofs.Bools.{test}
use Rattle.lists.proofs.Every.{Every}
use Rattle.lists.proofs.Tabulate.{length-tab, get_or-tab, tab-get_or}
use Rattle.field.specs.Field.{prime, difference, product, inverse}
use Rattle.field.specs.Internal.Dot.{dot}
use Rattle.field.proofs.Congruence.{◌≈◌, same_refl, same_sym, same_trans, same_eq, eq_same, reduced, times, ◌⊕◌, ◌⊗◌}
use Rattle.field.proofs.Fermat.{inverse_law}
use Rattle.field.proofs.Operations.{mod-word, difference_same, product_same}
use Rattle.polynomial.specs.Polynomial.{eval, value, linear, interpolate}
use Rattle.lagrange.specs.Internal.Lagrange.{over, Apart, inverted, weight, weights, Reads}
use Rattle.polynomial.proofs.Evaluation.{value_same, value-word, length-linear, eval-linear, combine, length_combine, eval_combine}
use Rattle.polynomial.proofs.Interpolation.{Meets, meets_none, meets_more, meets, length-interpolate}
use Rattle.lagrange.proofs.Products.{others, over-append, over_out, no_difference, others_apart, over_inverses, over_others}
use Rattle.polynomial.proofs.Roots.{Distinct, agree, distinct_tab}

-- sums of products of a table

pub dot_same : (n : ℕ) (f g : ℕ → ℕ) (ys : List ℕ) → ((m : ℕ) → m < n → f m ≈ g m) → dot (tab n f) ys ≈ dot (tab n g) ys
unfolding tab dot
dot_same zero f g ys h = same_refl
dot_same (suc n) f g [] h = same_refl
dot_same (suc n) f g (y ∷ ys) h =
    (h 0 (suc-le-suc zero-le) ⊗ same_refl) ⊕ dot_same n (λ m. f (suc m)) (λ m. g (suc m)) ys (λ m l. h (suc m) (suc-le-suc l))

dot-zero : (n : ℕ) (f : ℕ → ℕ) (ys : List ℕ) → ((m : ℕ) → m < n → f m ≈ 0) → dot (tab n f) ys ≈ 0
unfolding tab dot
dot-zero zero f ys h = same_refl
dot-zero (suc n) f [] h = same_refl
dot-zero (suc n) f (y ∷ ys) h =
    none_of (f 0) y _ (h 0 (suc-le-suc zero-le)) (dot-zero n (λ m. f (suc m)) ys (λ m l. h (suc m) (suc-le-suc l)))
  where
    none_of : (a y s : ℕ) → a ≈ 0 → s ≈ 0 → a * y + s ≈ 0
    none_of a y s h k = same_trans ((h ⊗ same_refl) ⊕ k) (same_eq (omega arith))

-- 1 at place k and 0 at the others picks place k
dot_pick : (n : ℕ) (f : ℕ → ℕ) (ys : List ℕ) (k : ℕ) → k < n → length ys ≡ n → f k ≈ 1 → ((m : ℕ) → m < n → (m ≡ k → ⊥) → f m ≈ 0)
    → dot (tab n f) ys ≈ get_or ys k 0
unfolding tab dot
dot_pick zero f ys k l e one others_0 = absurd (not-suc-le-zero l)
dot_pick (suc n) f [] k l e one others_0 = absurd (suc-ne-zero n (sym e))
dot_pick (suc n) f (y ∷ ys) zero l e one others_0 =
    picked (f 0) y _ one (dot-zero n (λ m. f (suc m)) ys (λ m h. others_0 (suc m) (suc-le-suc h) (suc-ne-zero m)))
  where
    picked : (a y s : ℕ) → a ≈ 1 → s ≈ 0 → a * y + s ≈ y
    picked a y s h k = same_trans ((h ⊗ same_refl) ⊕ k) (same_eq (omega arith))
dot_pick (suc n) f (y ∷ ys) (suc k) l e one others_0 =
    passed (f 0) y _ _ (others_0 0 (suc-le-suc zero-le) (λ q. suc-ne-zero k (sym q)))
    (dot_pick n (λ m. f (suc m)) ys k (le_of_suc-le-suc l) (suc_inj e) one (λ m h q. others_0 (suc m) (suc-le-suc h) (λ r. q (suc_inj r))))
  where
    passed : (a y s v : ℕ) → a ≈ 0 → s ≈ v → a * y + s ≈ v
    passed a y s v h k = same_trans ((h ⊗ same_refl) ⊕ k) (same_eq (omega arith))

-- polynomials times values, added up
unfoldable mix : ℕ → (ℕ → List ℕ) → List ℕ → List ℕ
mix zero fs ys = []
mix (suc n) fs [] = []
mix (suc n) fs (y ∷ ys) = combine y (fs 0) 1 (mix n (λ m. fs (suc m)) ys)

length_mix : (n : ℕ) (fs : ℕ → List ℕ) (ys : List ℕ) (b : ℕ) → ((m : ℕ) → m < n → length (fs m) ≤ b) → length (mix n fs ys) ≤ b
unfolding mix
length_mix zero fs ys b h = zero-le
length_mix (suc n) fs [] b h = zero-le
length_mix (suc n) fs (y ∷ ys) b h =
    length_combine y (fs 0) 1 (mix n (λ m. fs (suc m)) ys) b (h 0 (suc-le-suc zero-le)) (length_mix n (λ m. fs (suc m)) ys b (λ m l. h (suc m) (suc-le-suc l)))

eval_mix : (n : ℕ) (fs : ℕ → List ℕ) (ys : List ℕ) (z : ℕ) → eval (mix n fs ys) z ≈ dot (tab n (λ m. eval (fs m) z)) ys
unfolding mix tab dot eval
eval_mix zero fs ys z = same_refl
eval_mix (suc n) fs [] z = same_refl
eval_mix (suc n) fs (y ∷ ys) z =
    same_trans (eval_combine y (fs 0) 1 (mix n (λ m. fs (suc m)) ys) z)
    (step y (eval (fs 0) z) _ _ (eval_mix n (λ m. fs (suc m)) ys z))
  where
    step : (y a s v : ℕ) → s ≈ v → y * a + 1 * s ≈ a * y + v
    step y a s v h = same_trans (same_refl ⊕ times 1 h) (same_eq (omega arith))

-- the value at a point
meets_at : {f xs ys : List ℕ} → Meets f xs ys → (k : ℕ) → k < length xs → eval f (get_or xs k 0) ≈ get_or ys k 0
meets_at (meets_more e m) zero h = e
meets_at (meets_more e m) (suc k) h = meets_at m k (le_of_suc-le-suc h)
meets_at meets_none k h = absurd (not-suc-le-zero h)

every_place : {P : ℕ → Type 0} (xs : List ℕ) → ((k : ℕ) → k < length xs → P (get_or xs k 0)) → Every P xs
every_place {P} xs h = subst (Every P) (tab-get_or xs 0) (every_tab (length xs) (λ k. get_or xs k 0) h)

-- fs m is 1 at point m and 0 at the others
pub lagrange : (xs : List ℕ) → Distinct xs → (fs : ℕ → List ℕ) → ((m : ℕ) → m < length xs → length (fs m) ≤ length xs)
    → ((m : ℕ) → m < length xs → eval (fs m) (get_or xs m 0) ≈ 1)
    → ((m k : ℕ) → m < length xs → k < length xs → (m ≡ k → ⊥) → eval (fs m) (get_or xs k 0) ≈ 0)
    → (ys : List ℕ) → length ys ≡ length xs → (z : ℕ) → dot (tab (length xs) (λ m. eval (fs m) z)) ys ≈ eval (interpolate xs ys) z
lagrange xs d fs short one zeros ys e z =
    let n : ℕ = length xs in
    same_trans (same_sym (eval_mix n fs ys z))
    (agree (mix n fs ys) (interpolate xs ys) xs (length_mix n fs ys n short) (le_of_eq (length-interpolate xs ys e)) d
    (every_place xs
    (λ k h.
    same_trans (eval_mix n fs ys (get_or xs k 0))
    (same_trans (dot_pick n (λ m. eval (fs m) (get_or xs k 0)) ys k h e (one k h) (λ m l q. zeros m k l h q))
    (same_sym (meets_at (meets xs ys e d) k h)))))
    z)

-- w times the product of X − x over a list
unfoldable rooted : ℕ → List ℕ → List ℕ
rooted w [] = w ∷ []
rooted w (x ∷ xs) = linear x 0 (rooted w xs)

length_rooted : (w : ℕ) (xs : List ℕ) → length (rooted w xs) ≡ suc (length xs)
unfolding rooted
length_rooted w [] = refl
length_rooted w (x ∷ xs) = length-linear x 0 (rooted w xs) ∙ ap suc (length_rooted w xs)

eval_rooted : (w : ℕ) (xs : List ℕ) (z : ℕ) → eval (rooted w xs) z ≈ w * over (difference z) xs
unfolding rooted over eval
eval_rooted w [] z = same_eq (omega arith)
eval_rooted w (x ∷ xs) z =
    same_trans (eval-linear x 0 (rooted w xs) z)
    (step w (difference z x) (over (difference z) xs) (same_sym (difference_same z x)) (eval_rooted w xs z))
  where
    step : (w d o : ℕ) {c e : ℕ} → c ≈ d → e ≈ w * o → 0 + c * e ≈ w * (d * o)
    step w d o h k = same_trans (same_refl ⊕ (h ⊗ k)) (same_eq (omega arith))

length_others : (m : ℕ) (xs : List ℕ) → m < length xs → suc (length (others m xs)) ≡ length xs
length_others m xs h = omega (arith, length-append (take m xs) (drop (suc m) xs), length-take-le m xs (omega arith), length-drop (suc m) xs)

pub distinct_apart : {xs : List ℕ} → Apart xs → Distinct xs
distinct_apart {xs} A =
    subst Distinct (tab-get_or xs 0)
    (distinct_tab (length xs) (λ i. get_or xs i 0) (λ i j k l e. A.apart i j k l (eq_same (A.words i k) (A.words j l) e)))

-- the weight inverts the differences of its point from the others
weight_inverts : (xs : List ℕ) → Distinct xs → (m : ℕ) → m < length xs → weight xs m * over (difference (get_or xs m 0)) (others m xs) ≈ 1
unfolding weight inverted
weight_inverts xs d m h =
    let x : ℕ = get_or xs m 0 in
    let f : ℕ → ℕ = λ a. inverse (difference x a) in
    let whole : over f (take m xs) % prime * (over f (drop (m + 1) xs) % prime) ≈ over f (others m xs) =
    same_trans (reduced (over f (take m xs)) ⊗ reduced (over f (drop (m + 1) xs)))
    (same_eq (ap (λ (n : ℕ). over f (take m xs) * over f (drop n xs)) (add-one m) ∙ sym (over-append f (take m xs) (drop (suc m) xs)))) in
    same_trans (same_trans (product_same (over f (take m xs) % prime) (over f (drop (m + 1) xs) % prime)) whole ⊗ same_refl)
    (over_inverses x (others_apart xs d m h))

-- what the code puts at place m of the row for z
unfoldable pub entry_of : List ℕ → ℕ → ℕ → ℕ
entry_of xs z m = cond (eqb z (get_or xs m 0)) 1 (product (product (over (difference z) xs % prime) (weight xs m)) (inverse (difference z (get_or xs m 0))))

module _ (xs : List ℕ) (A : Apart xs) (z : ℕ) (hz : z < prime) where
  -- it is the value at z of the polynomial that is 1 at point m and 0 at the others
  entry_same : (m : ℕ) → m < length xs → entry_of xs z m ≈ eval (rooted (weight xs m) (others m xs)) z
  unfolding entry_of
  entry_same m h =
      let x : ℕ = get_or xs m 0 in
      let w : ℕ = weight xs m in
      same_trans
      (elim (test (eqb z x)) [
        | inl e ↦ rw e (same_sym (rw (eqb-true z x e) (weight_inverts xs (distinct_apart A) m h)))
        | inr e ↦
            rw e
            (divided (over (difference z) xs) w (inverse (difference z x)) (difference z x) (over (difference z) (others m xs)) (over_out (difference z) xs m h)
            (inverse_law (difference z x) (λ q. eqb-false z x e (sym (eq_same (A.words m h) hz (no_difference z x q))))))
      ])
      (same_sym (eval_rooted w (others m xs) z))
    where
      regroup : (d o w i : ℕ) → d * o * w * i ≡ d * i * (w * o)
      regroup d o w i = omega arith

      divided : (all w i d o : ℕ) → all ≡ d * o → d * i ≈ 1 → product (product (all % prime) w) i ≈ w * o
      divided all w i d o e k =
          same_trans (product_same (product (all % prime) w) i)
          (same_trans ((same_trans (product_same (all % prime) w) (same_trans (reduced all) (same_eq e) ⊗ same_refl)) ⊗ same_refl)
          (same_trans (same_eq (regroup d o w i)) (same_trans (k ⊗ same_refl) (same_eq (omega arith)))))

  pub row_reads : (row : List ℕ) → row ≡ tab (length xs) (entry_of xs z) → Reads xs z row
  unfolding value
  row_reads row e =
      let d : Distinct xs = distinct_apart A in
      let n : ℕ = length xs in
      let fs : ℕ → List ℕ = λ m. rooted (weight xs m) (others m xs) in
      record {
        long = ap length e ∙ length-tab n (entry_of xs z);
        reads = λ ys l.
            eq_same (mod-word (dot row ys)) (value-word (interpolate xs ys) z)
            (same_trans (reduced (dot row ys))
            (same_trans (same_eq (ap (λ (r : List ℕ). dot r ys) e))
            (same_trans (dot_same n (entry_of xs z) (λ m. eval (fs m) z) ys entry_same)
            (same_trans
            (lagrange xs d fs (λ m h. le_of_eq (length_rooted (weight xs m) (others m xs) ∙ length_others m xs h))
            (λ m h. same_trans (eval_rooted (weight xs m) (others m xs) (get_or xs m 0)) (weight_inverts xs d m h))
            (λ m k h l q. same_trans (eval_rooted (weight xs m) (others m xs) (get_or xs k 0))
            (same_trans (times (weight xs m) (over_others xs m k h l q)) (same_eq (omega arith))))
            ys l z)
            (same_sym (value_same (interpolate xs ys) z))))));
      }

-- the weights at their places
pub weight_at : (xs ws : List ℕ) (m : ℕ) → m < length xs → ws ≡ weights xs → get_or ws m 0 ≡ weight xs m
unfolding weights
weight_at xs ws m h e = ap (λ (l : List ℕ). get_or l m 0) e ∙ get_or-tab (length xs) (weight xs) m 0 h

pub length-weights : (xs : List ℕ) → length (weights xs) ≡ length xs
unfolding weights
length-weights xs = length-tab (length xs) (weight xs)

-- for a loop that writes a row
pub ruleset row_words = (weight_at, length-weights)
