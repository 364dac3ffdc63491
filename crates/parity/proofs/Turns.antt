-- The turns of the look's loops: the leading words that pass, the rows one after the other, and the values at 0.
-- Assumes nothing.
use mathlib.Core.Path.{◌≡◌, refl, sym, ap, ap₂, ◌∙◌, subst}
use mathlib.Core.Logic.{inl, inr}
use mathlib.Core.Bool.{Bool, true, false, cond, ◌&&◌}
use mathlib.Core.List.{List, ◌++◌}
use Prim.Native.Nat.{ℕ, zero, suc, ◌+◌, ◌-◌, ◌*◌, ◌%◌, ◌^◌, ◌≤◌, ◌<◌, zero-le, suc-le-suc}
use native.Mathlib.Nat.{le_of_suc-le-suc, not-suc-le-zero, mul-one, mul_assoc, pow-suc, pow-zero}
use native.Mathlib.Numerals.{add-one}
use native.Mathlib.Omega.{arith}
use lib.Dec.{eqb, ltb}
use lib.ListN.{length, get_or, drop}
use lib.Seq.{sets, sets-eq, get_or-take}
use borrow.Author.Tests.{eq-eqb, ne_eqb}
use Rattle.lists.specs.Tabulate.{tab, all}
use Rattle.lists.proofs.Sums.{sum_to_ext}
use Rattle.lists.proofs.Stores.{sets-read}
use Rattle.lists.proofs.Tabulate.{length-tab, get_or-tab, tab_ext, all_elim, all_intro, all_last}
use Rattle.lists.proofs.Bools.{test, and_intro, and_right, same_test}
use Rattle.field.specs.Field.{prime, product}
use Rattle.field.proofs.Congruence.{◌≈◌, same_refl, same_trans, same_eq, reduced, times, ◌⊗◌}
use Rattle.field.proofs.Operations.{product_same}
use Rattle.members.specs.Members.{size}
use Rattle.members.proofs.Words.{size_pos}
use Rattle.parity.specs.Parity.{factorial, weight, parity, balanced}
use Rattle.parity.specs.Internal.Looking.{leading, zero_scale, zero_weight, constant, dot, looked, with_values}
use Rattle.parity.specs.Internal.Summing.{Summed, sum_at}
use Rattle.parity.proofs.Summing.{sum_at_lem}
use Rattle.parity.proofs.Sums.{same_sum}

-- the factorial of one more
pub factorial_next : (k result w : ℕ) → result ≡ factorial k % prime → w ≡ product (k + 1) result → w ≡ factorial (k + 1) % prime
unfolding factorial product
factorial_next k result w h e =
    e
    ∙ ap (λ (r : ℕ). (k + 1) * r % prime) h
    ∙ (times (k + 1) (reduced (factorial k))).same
    ∙ ap (λ (m : ℕ). m % prime) (ap (λ (m : ℕ). m * factorial k) (add-one k) ∙ sym (ap factorial (add-one k)))

-- the weight for the value at 0, with its scale
pub zero-weight : (n scale f i r : ℕ) → f ≡ factorial (n - 1) % prime → scale ≡ product 65520 f
    → r ≡ cond (ltb (suc i) n) (product scale (weight n (suc i))) 0 → r ≡ zero_weight n i
unfolding zero_weight zero_scale
zero-weight n scale f i r ef es er = er ∙ ap (λ (s : ℕ). cond (ltb (suc i) n) (product s (weight n (suc i))) 0) (es ∙ ap (product 65520) ef)

-- for the loop that writes them: there is a member, and each place gets its weight
pub ruleset zero_row = (size_pos, zero-weight)

-- a sum that the code compares with 0
pub not_0 : {r v : ℕ} → r ≡ v → (r ≡ 0 → ⊥) → eqb v 0 ≡ false
not_0 {r} {v} e h = ne_eqb v 0 (λ z. h (e ∙ z))

pub is_0 : {r v : ℕ} → r ≡ v → r ≡ 0 → eqb v 0 ≡ true
is_0 {r} {v} e h = eq-eqb v 0 (sym e ∙ h)

-- leading numbers: those that pass, up to one that does not
pub leading_stops : (n : ℕ) (p : ℕ → Bool) (k : ℕ) → k < n → ((j : ℕ) → j < k → p j ≡ true) → p k ≡ false → k ≡ leading n p
unfolding leading
leading_stops zero p k l h e = absurd (not-suc-le-zero l)
leading_stops (suc n) p zero l h e = sym (ap (λ (b : Bool). cond b (suc (leading n (λ k. p (suc k)))) 0) e)
leading_stops (suc n) p (suc k) l h e =
    ap suc (leading_stops n (λ j. p (suc j)) k (le_of_suc-le-suc l) (λ j m. h (suc j) (suc-le-suc m)) e)
    ∙ sym (ap (λ (b : Bool). cond b (suc (leading n (λ k. p (suc k)))) 0) (h 0 (suc-le-suc zero-le)))

pub leading-all : (n : ℕ) (p : ℕ → Bool) → ((j : ℕ) → j < n → p j ≡ true) → n ≡ leading n p
unfolding leading
leading-all zero p h = refl
leading-all (suc n) p h =
    ap suc (leading-all n (λ j. p (suc j)) (λ j m. h (suc j) (suc-le-suc m)))
    ∙ sym (ap (λ (b : Bool). cond b (suc (leading n (λ k. p (suc k)))) 0) (h 0 (suc-le-suc zero-le)))

leading_le : (n : ℕ) (p : ℕ → Bool) → leading n p ≤ n
unfolding leading
leading_le zero p = zero-le
leading_le (suc n) p =
    elim (test (p 0)) [
      | inl e ↦ rw e (suc-le-suc (leading_le n (λ k. p (suc k))))
      | inr e ↦ rw e zero-le
    ]

pub leading_passes : (n : ℕ) (p : ℕ → Bool) (j : ℕ) → j < leading n p → p j ≡ true
unfolding leading
leading_passes zero p j l = absurd (not-suc-le-zero l)
leading_passes (suc n) p j l = at (p 0) refl j l (leading_passes n (λ k. p (suc k)))
  where
    at : (b : Bool) → p 0 ≡ b → (j : ℕ) → j < cond b (suc (leading n (λ k. p (suc k)))) 0
        → ((i : ℕ) → i < leading n (λ k. p (suc k)) → p (suc i) ≡ true) → p j ≡ true
    at true e zero m h = e
    at true e (suc j) m h = h j (le_of_suc-le-suc m)
    at false e j m h = absurd (not-suc-le-zero m)

leading_ext : (n : ℕ) (p q : ℕ → Bool) → ((j : ℕ) → j < n → p j ≡ q j) → leading n p ≡ leading n q
unfolding leading
leading_ext zero p q h = refl
leading_ext (suc n) p q h =
    ap₂ (λ (b : Bool) (k : ℕ). cond b (suc k) 0) (h 0 (suc-le-suc zero-le))
    (leading_ext n (λ k. p (suc k)) (λ k. q (suc k)) (λ j l. h (suc j) (suc-le-suc l)))

-- of the leading numbers that pass one test, those that lead by another
leading_two : (a : Bool) (k : ℕ) (q : ℕ → Bool) → leading (cond a (suc k) 0) q ≡ cond (a && q 0) (suc (leading k (λ j. q (suc j)))) 0
unfolding leading
leading_two true k q = refl
leading_two false k q = refl

leading_both : (n : ℕ) (p q : ℕ → Bool) → leading (leading n p) q ≡ leading n (λ k. p k && q k)
unfolding leading
leading_both zero p q = refl
leading_both (suc n) p q =
    leading_two (p 0) (leading n (λ k. p (suc k))) q
    ∙ ap (λ (m : ℕ). cond (p 0 && q 0) (suc m) 0) (leading_both n (λ k. p (suc k)) (λ k. q (suc k)))

-- before sum m: the row is each member's weight times its point to the power m, and the words that are left have the sums below m all 0
pub record Balancing (t d : ℕ) (y : ℕ → ℕ → ℕ) (row : List ℕ) (left m : ℕ) : Type 0 where
  pub inside : m ≤ t
  pub long : length row ≡ size t
  pub entries : (i : ℕ) → i < size t → get_or row i 0 ≈ weight (size t) i * suc i ^ m
  pub so_far : left ≡ leading d (λ k. all m (λ j. eqb (parity (size t) j (λ i. y i k)) 0))

module _ (t d : ℕ) (y : ℕ → ℕ → ℕ) where
  pub balancing_first : (n : ℕ) (row : List ℕ) → n ≡ size t → row ≡ tab n (weight n) → Balancing t d y row d 0
  unfolding all
  balancing_first n row members e₀ =
      let e : row ≡ tab (size t) (weight (size t)) = e₀ ∙ ap (λ (m : ℕ). tab m (weight m)) members in
      record {
        inside = zero-le;
        long = ap length e ∙ length-tab (size t) (weight (size t));
        entries = λ i l. same_eq (ap (λ (r : List ℕ). get_or r i 0) e ∙ get_or-tab (size t) (weight (size t)) i 0 l ∙ sym (rw pow-zero (mul-one (weight (size t) i))));
        so_far = leading-all d (λ k. true) (λ j l. refl);
      }

  module _ (row : List ℕ) (left m : ℕ) (h : Balancing t d y row left m) where
    -- the row's sum is sum m
    its_sum : (k : ℕ) → dot (size t) row (λ i. y i k) ≡ parity (size t) m (λ i. y i k)
    unfolding dot parity
    its_sum k =
        (same_sum (size t) (λ i. get_or row i 0 * y i k) (λ i. weight (size t) i * suc i ^ m * y i k) (λ i l. h.entries i l ⊗ same_refl)).same

    pub balancing_few : left ≤ d
    balancing_few = subst (λ (n : ℕ). n ≤ d) (sym h.so_far) (leading_le d (λ k. all m (λ j. eqb (parity (size t) j (λ i. y i k)) 0)))

    pub balancing_next : m < t → (n : ℕ) → n ≡ size t → (low high : List ℕ) → Summed d y row n low high → (r : ℕ) (next : List ℕ)
        → r ≡ leading left (λ k. eqb (sum_at low high k) 0) → next ≡ tab (length row) (λ i. product (get_or row i 0) (suc i)) → Balancing t d y next r (m + 1)
    balancing_next more n members low high sums r next er en =
        subst (Balancing t d y next r) (sym (add-one m))
        (record {
          inside = more;
          long = ap length en ∙ length-tab (length row) (λ i. product (get_or row i 0) (suc i)) ∙ h.long;
          entries = λ i l. same_trans (same_eq (entry i l)) (same_trans (product_same (get_or row i 0) (suc i)) (same_trans (h.entries i l ⊗ same_refl) (same_eq (power_next i))));
          so_far =
              er
              ∙ leading_ext left (λ k. eqb (sum_at low high k) 0) (λ k. eqb (parity (size t) m (λ i. y i k)) 0) (λ k l. ap (λ (v : ℕ). eqb v 0) (its_own k l))
              ∙ ap (λ (n : ℕ). leading n (λ k. eqb (parity (size t) m (λ i. y i k)) 0)) h.so_far
              ∙ leading_both d (λ k. all m (λ j. eqb (parity (size t) j (λ i. y i k)) 0)) (λ k. eqb (parity (size t) m (λ i. y i k)) 0)
              ∙ leading_ext d _ (λ k. all (suc m) (λ j. eqb (parity (size t) j (λ i. y i k)) 0)) (λ k l. sym (all_last m (λ j. eqb (parity (size t) j (λ i. y i k)) 0)));
        })
      where
        entry : (i : ℕ) → i < size t → get_or next i 0 ≡ product (get_or row i 0) (suc i)
        entry i l =
            ap (λ (n : List ℕ). get_or n i 0) en
            ∙ get_or-tab (length row) (λ i. product (get_or row i 0) (suc i)) i 0 (subst (λ (n : ℕ). i < n) (sym h.long) l)

        its_own : (k : ℕ) → k < left → sum_at low high k ≡ parity (size t) m (λ i. y i k)
        its_own k l = sum_at_lem d n y row low high sums k (omega (arith, l, balancing_few)) ∙ ap (λ (i : ℕ). dot i row (λ i. y i k)) members ∙ its_sum k

        power_next : (i : ℕ) → weight (size t) i * suc i ^ m * suc i ≡ weight (size t) i * suc i ^ suc m
        power_next i = rw pow-suc (mul_assoc (weight (size t) i) (suc i ^ m) (suc i))

    -- no word is left, and so none passes
    pub balancing_none : left ≡ 0 → 0 ≡ looked t d y
    unfolding looked balanced leading
    balancing_none e =
        let zero_at : ℕ → ℕ → Bool = λ k j. eqb (parity (size t) j (λ i. y i k)) 0 in
        ap (λ (n : ℕ). leading n (λ k. all t (zero_at k))) (sym e ∙ h.so_far)
        ∙ leading_both d (λ k. all m (zero_at k)) (λ k. all t (zero_at k))
        ∙ leading_ext d (λ k. all m (zero_at k) && all t (zero_at k)) (λ k. all t (zero_at k))
        (λ k l. same_test (all m (zero_at k) && all t (zero_at k)) (all t (zero_at k)) (and_right (all m (zero_at k)) (all t (zero_at k)))
        (λ a. and_intro (all_intro m (zero_at k) (λ j b. all_elim t (zero_at k) a j (omega (arith, h.inside)))) a))

    pub balancing_last : t ≤ m → left ≡ looked t d y
    unfolding looked balanced
    balancing_last l =
        let e : m ≡ t = omega (arith, h.inside) in
        h.so_far ∙ ap (λ (n : ℕ). leading d (λ k. all n (λ j. eqb (parity (size t) j (λ i. y i k)) 0))) e

-- not more words pass than there are
pub looked-le : (t d : ℕ) (y : ℕ → ℕ → ℕ) (left : ℕ) → left ≡ looked t d y → left ≤ d
unfolding looked
looked-le t d y left e = subst (λ (n : ℕ). n ≤ d) (sym e) (leading_le d (λ k. balanced t (λ i. y i k)))

-- values in front of what was there
front : (l vs : List ℕ) (k : ℕ) → length vs ≡ k → k ≤ length l → vs ++ drop k l ≡ sets l 0 vs
front l vs k e h = ap (λ (n : ℕ). vs ++ drop n l) {y = 0 + length vs} (omega arith) ∙ sym (sets-eq vs l 0 (omega arith))

-- the values that are stored are those at 0
pub stored_values : (t n d : ℕ) (y : ℕ → ℕ → ℕ) (row low high : List ℕ) (k : ℕ) (before after : List ℕ) → n ≡ size t → row ≡ tab (size t) (zero_weight (size t))
    → Summed d y row n low high → k ≤ d → after ≡ sets before 0 (tab k (sum_at low high)) → after ≡ with_values t k y before
unfolding with_values constant dot
stored_values t n d y row low high k before after en er sums few ea =
    ea
    ∙ ap (sets before 0)
    (tab_ext k (sum_at low high) (λ j. constant (size t) (λ i. y i j))
    (λ j l.
    sum_at_lem d n y row low high sums j (omega (arith, l, few))
    ∙ ap (λ (m : ℕ). dot m row (λ i. y i j)) en
    ∙ ap (λ (m : ℕ). m % prime)
    (sum_to_ext (size t) (λ i. get_or row i 0 * y i j) (λ i. zero_weight (size t) i * y i j)
    (λ i h. ap (λ (w : ℕ). w * y i j) (ap (λ (r : List ℕ). get_or r i 0) er ∙ get_or-tab (size t) (zero_weight (size t)) i 0 h)))))

-- also where they are stored in a part that has as many places
pub stored_in_part : (t n d : ℕ) (y : ℕ → ℕ → ℕ) (row low high : List ℕ) (k m : ℕ) (before values : List ℕ) → n ≡ size t → row ≡ tab n (zero_weight n)
    → Summed d y row n low high → k ≤ d → k ≤ length before → m ≡ k → values ≡ tab m (sum_at low high) → values ++ drop k before ≡ with_values t k y before
stored_in_part t n d y row low high k m before values en er sums few inside em ev =
    let own : values ≡ tab k (sum_at low high) = ev ∙ ap (λ (j : ℕ). tab j (sum_at low high)) em in
    front before values k (ap length own ∙ length-tab k (sum_at low high)) inside
    ∙ stored_values t n d y row low high k before (sets before 0 values) en (er ∙ ap (λ (j : ℕ). tab j (zero_weight j)) en) sums few (ap (sets before 0) own)

-- and are read there
pub opened_at : (t k : ℕ) (y : ℕ → ℕ → ℕ) (secret : List ℕ) (j : ℕ) → k ≤ length secret → j < k → get_or (with_values t k y secret) j 0 ≡ constant (size t) (λ i. y i j)
unfolding with_values
opened_at t k y secret j h l =
    let f : ℕ → ℕ = λ j. constant (size t) (λ i. y i j) in
    sym (get_or-take k (sets secret 0 (tab k f)) j 0 l)
    ∙ ap (λ (r : List ℕ). get_or r j 0) (sets-read secret (tab k f) 0 k (length-tab k f) (omega arith))
    ∙ get_or-tab k f j 0 l
