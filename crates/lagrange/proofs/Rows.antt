-- The matrix for some members of a set: which are chosen, and the rows that are filled.
-- Assumes nothing.
use mathlib.Core.Path.{◌≡◌, refl, sym, ap, ap₂, ◌∙◌, subst}
use mathlib.Core.Bool.{Bool, false, ◌&&◌, not}
use mathlib.Core.List.{List, []}
use Rattle.std.specs.Prelude.{Option, Some, None, IsSome}
use Prim.Native.Nat.{ℕ, suc, ◌+◌, ◌%◌, ◌^◌, ◌≤◌, ◌<◌, zero-le}
use native.Mathlib.Nat.{le_of_suc-le-suc, not-suc-le-zero, suc_inj, lt_of_lt_of_le, lt_of_le_of_lt, lt_of_not-le, le_trans}
use native.Mathlib.Decide.{dec_le}
use native.Mathlib.Numerals.{add-one}
use native.Mathlib.Omega.{arith}
use lib.Dec.{eqb}
use lib.ListN.{length, get_or, take, set, length-set}
use lib.Pow.{pow_mono}
use lib.Seq.{get_or-set_same, get_or-set_other}
use borrow.Author.Tests.{eq-eqb}
use borrow.Author.Count.{below_more}
use Rattle.lists.specs.Tabulate.{tab}
use Rattle.lists.proofs.Tabulate.{tab_ext}
use Rattle.lists.proofs.Bools.{clash, and_no}
use Rattle.lists.proofs.Count.{to_ℕ, count_at, count_ext}
use Rattle.field.specs.Field.{prime}
use Rattle.field.specs.Internal.Dot.{dot}
use Rattle.polynomial.specs.Polynomial.{value, interpolate}
use Rattle.lagrange.specs.Internal.Lagrange.{Reads}
use Rattle.members.specs.Members.{has, card, striking}
use Rattle.members.specs.Internal.Lowest.{First, Lowest}
use Rattle.members.proofs.Masks.{has-zero, card_some}
use Rattle.members.proofs.Words.{has-striking, striking-le}
use Rattle.lagrange.specs.Internal.Matrix.{Chosen, Rows, products}

-- a point of a member that is not left in the set
record Gone (n rest point : ℕ) : Type 0 where
  i : ℕ
  is : point ≡ suc i
  inside : i < n
  gone : has rest i ≡ false

-- m points are chosen, and their members taken out of the set
pub record Choosing (n : ℕ) (points : List ℕ) (rest m : ℕ) : Type 0 where
  inside : m ≤ length points
  below : rest < 2 ^ n
  enough : length points ≤ m + card n rest
  members : (j : ℕ) → j < m → Gone n rest (get_or points j 0)
  apart : (j k : ℕ) → j < k → k < m → get_or points j 0 ≡ get_or points k 0 → ⊥

pub choosing_first : {n : ℕ} {points : List ℕ} {s : ℕ} → s < 2 ^ n → length points ≤ card n s → Choosing n points s 0
choosing_first h e =
    record {
      inside = zero-le;
      below = h;
      enough = omega arith;
      members = λ j l. absurd (not-suc-le-zero l);
      apart = λ j k l q. absurd (not-suc-le-zero q);
    }

-- there is a member left for the next point
pub member_left : {n : ℕ} {points : List ℕ} {rest m : ℕ} → Choosing n points rest m → m < length points
    → (lowest : Option ℕ) → Lowest rest lowest → IsSome lowest
member_left C more (Some i) low = refl
member_left {n} {rest = rest} C more None empty =
    let r = card_some n rest (omega (arith, C.enough)) in
    absurd (clash r.2 (ap (λ (s : ℕ). has s r.0) empty ∙ has-zero r.0))

pub first_left : {rest i : ℕ} {lowest : Option ℕ} → lowest ≡ Some i → Lowest rest lowest → First rest i
first_left {rest} e low = subst (Lowest rest) e low

module _ {n : ℕ} {points : List ℕ} {rest m i : ℕ} (C : Choosing n points rest m) (more : m < length points) (few : n ≤ 31) (low : First rest i) where
  -- there is a member left
  pub left_inside : i < n
  left_inside =
      let some_left : 0 < card n rest = omega (arith, C.enough) in
      let r = card_some n rest some_left in
      elim (dec_le i r.0) [
        | yes q ↦ lt_of_le_of_lt q r.1
        | no q ↦ absurd (clash r.2 (low.none_before r.0 (lt_of_not-le q)))
      ]

  word : rest < 2 ^ 32
  word = lt_of_lt_of_le C.below (pow_mono {j = 32} (omega arith))

  one_less : card n rest ≡ suc (card n (striking rest i))
  unfolding card
  one_less =
      count_at n (has rest) i left_inside
      ∙ ap₂ (λ (b : Bool) (c : ℕ). to_ℕ b + c) low.member
      (count_ext n (λ j. has rest j && not (eqb j i)) (has (striking rest i)) (λ j l. sym (has-striking rest i j (omega arith))))
      ∙ omega arith

  struck : (j : ℕ) → j < n → has rest j ≡ false → has (striking rest i) j ≡ false
  struck j l e = has-striking rest i j (omega arith) ∙ ap (λ (b : Bool). b && not (eqb j i)) e

  pub choosing_next : (v rest' : ℕ) → v ≡ i + 1 → rest' ≡ striking rest i → Choosing n (set points m v) rest' (m + 1)
  choosing_next v rest' ev er =
      subst (λ (r : ℕ). Choosing n (set points m v) r (m + 1)) (sym er)
      (record {
        inside = omega (arith, length-set points m v);
        below = lt_of_le_of_lt (striking-le rest i word (omega (arith, left_inside))) C.below;
        enough = omega (arith, length-set points m v, C.enough, one_less);
        members = λ j l.
            elim (dec_le (suc j) m) [
              | yes q ↦
                  let g : Gone n rest (get_or points j 0) = C.members j q in
                  record { i = g.i; is = before j q ∙ g.is; inside = g.inside; gone = struck g.i g.inside g.gone }
              | no q ↦
                  let e : j ≡ m = omega arith in
                  record {
                    i = i;
                    is = ap (λ (k : ℕ). get_or (set points m v) k 0) e ∙ here ∙ ev ∙ add-one i;
                    inside = left_inside;
                    gone = has-striking rest i i (omega (arith, left_inside)) ∙ and_no (has rest i) (not (eqb i i)) (ap not (eq-eqb i i refl));
                  }
            ];
        apart = λ j k l h e.
            elim (dec_le (suc k) m) [
              | yes q ↦ C.apart j k l q (sym (before j (omega arith)) ∙ e ∙ before k q)
              | no q ↦
                  let at : k ≡ m = omega arith in
                  let g : Gone n rest (get_or points j 0) = C.members j (omega arith) in
                  let same : i ≡ g.i =
                  suc_inj
                  (sym (add-one i) ∙ sym ev ∙ sym here ∙ ap (λ (a : ℕ). get_or (set points m v) a 0) (sym at) ∙ sym e ∙ before j (omega arith) ∙ g.is) in
                  clash low.member (ap (has rest) same ∙ g.gone)
            ];
      })
    where
      before : (j : ℕ) → j < m → get_or (set points m v) j 0 ≡ get_or points j 0
      before j l = get_or-set_other points m j v 0 (λ e. omega arith)

      here : get_or (set points m v) m 0 ≡ v
      here = get_or-set_same points m v 0 more

pub choosing_last : {n : ℕ} {points : List ℕ} {rest m : ℕ} → length points ≤ m → n ≤ 31 → Choosing n points rest m → Chosen n points
choosing_last {n} {points} {rest} {m} h few C =
    record {
      low = λ j l. omega (arith, (at j l).is);
      high = λ j l. omega (arith, (at j l).is, (at j l).inside);
      apart = record {
        words = λ j l. omega (arith, (at j l).is, (at j l).inside);
        apart = λ j k l q e.
            elim (dec_le (suc j) k) [
              | yes a ↦ absurd (C.apart j k a (le_trans q h) e)
              | no a ↦ elim (dec_le (suc k) j) [ yes b ↦ absurd (C.apart k j b (le_trans l h) (sym e)) | no b ↦ omega arith ]
            ];
      };
    }
  where
    at : (j : ℕ) → j < length points → Gone n rest (get_or points j 0)
    at j l = C.members j (le_trans l h)

-- one more row
pub rows_next : (points : List ℕ) (matrix : List (List ℕ)) (x : ℕ) (row : List ℕ) → x < length matrix
    → ((z : ℕ) → z < x → Reads points z (take (length points) (get_or matrix z []))) → Reads points x (take (length points) row)
    → (z : ℕ) → z < x + 1 → Reads points z (take (length points) (get_or (set matrix x row) z []))
rows_next points matrix x row inside before here =
    below_more (λ z. Reads points z (take (length points) (get_or (set matrix x row) z []))) x
    (λ z l. subst (λ (r : List ℕ). Reads points z (take (length points) r)) (sym (get_or-set_other matrix x z row [] (λ e. omega arith))) (before z l))
    (subst (λ (r : List ℕ). Reads points x (take (length points) r)) (sym (get_or-set_same matrix x row [] inside)) here)

-- the sums of products with the rows are values of the polynomial through the words
pub read_off : (n len : ℕ) (points : List ℕ) (matrix : List (List ℕ)) (words expected : List ℕ) → Rows n points matrix
    → length words ≡ length points → len ≡ suc n
    → expected ≡ tab len (products matrix words) → expected ≡ tab (suc n) (value (interpolate points words))
unfolding products
read_off n len points matrix words expected R e el ee =
    ee
    ∙ ap (λ (m : ℕ). tab m (products matrix words)) el
    ∙ tab_ext (suc n) (products matrix words) (value (interpolate points words))
    (λ x l.
    ap (λ (m : ℕ). dot (take m (get_or matrix x [])) words % prime) e ∙ (R.rows x (le_of_suc-le-suc l)).reads words e)
