-- Laws of a line's fields as they are read, from the front: the numbers stored, and those of the fields left, are the line's.
-- Assumes nothing.
use mathlib.Core.Path.{◌≡◌, refl, sym, ap, ◌∙◌}
use mathlib.Core.Logic.{◌⊎◌, inl, inr}
use mathlib.Core.Bool.{Bool, true, false, cond}
use mathlib.Core.Option.{Option, none, some}
use mathlib.Core.List.{List, [], ◌∷◌, ◌++◌, append_assoc, append-nil}
use Prim.Native.Nat.{ℕ, suc, ◌+◌, ◌-◌, ◌≤◌, ◌<◌}
use native.Mathlib.Numerals.{add-one}
use native.Mathlib.Omega.{arith}
use borrow.Author.Tests.{eq-eqb, ne_eqb}
use lib.Dec.{eqb, eqb-zero-suc, eqb-suc-zero, eqb-suc-suc}
use lib.ListN.{length, get_or, take, set, length-set}
use lib.Seq.{take_all, take-suc-set}
use Rattle.std.specs.Prelude.{Some, None}
use Rattle.lists.proofs.Bools.{test}
use Rattle.text.specs.Lines.{parts, decimal, is_numeral, numerals, is_letter, numbers_of, line_of}
use Rattle.text.specs.Internal.Scanning.{numeral_of, fields_left}

-- ---- numbers of fields

-- the numbers of exactly k fields that are all numerals
unfoldable pub numbers_in : ℕ → List (List ℕ) → Option (List ℕ)
numbers_in k fields = cond (eqb (length fields) k) (numerals fields) none

-- numbers, and those after them
unfoldable pub joined : List ℕ → Option (List ℕ) → Option (List ℕ)
joined xs none = none
joined xs (some ns) = some (xs ++ ns)

numbers_none : (k : ℕ) → numbers_in (suc k) [] ≡ none
unfolding numbers_in
numbers_none k = rw (eqb-zero-suc k)

numbers_end : numbers_in 0 [] ≡ some []
unfolding numbers_in numerals
numbers_end = refl

numbers_more : (f : List ℕ) (fs : List (List ℕ)) → numbers_in 0 (f ∷ fs) ≡ none
unfolding numbers_in
numbers_more f fs = rw (eqb-suc-zero (length fs))

same_either : {A : Type 0} (b : Bool) (x : A) → cond b x x ≡ x
same_either true x = refl
same_either false x = refl

-- a field that is no numeral
numbers_bad : (k : ℕ) (f : List ℕ) (fs : List (List ℕ)) → is_numeral f ≡ false → numbers_in k (f ∷ fs) ≡ none
unfolding numbers_in numerals
numbers_bad k f fs e = rw e (same_either (eqb (suc (length fs)) k) none)

some_or_none : (o : Option (List ℕ)) → (o ≡ none) ⊎ ((ns : List ℕ) × (o ≡ some ns))
some_or_none none = inl refl
some_or_none (some ns) = inr (ns, refl)

pub numerals_good : (f : List ℕ) (fs : List (List ℕ)) → is_numeral f ≡ true → numerals (f ∷ fs) ≡ joined (decimal 0 f ∷ []) (numerals fs)
unfolding numerals joined
numerals_good f fs e = elim (some_or_none (numerals fs)) [
  | inl n ↦ rw (e, n)
  | inr n ↦ rw (e, n.1)
]

-- a field that is one
numbers_good : (k : ℕ) (f : List ℕ) (fs : List (List ℕ)) → is_numeral f ≡ true → numbers_in (suc k) (f ∷ fs) ≡ joined (decimal 0 f ∷ []) (numbers_in k fs)
unfolding numbers_in joined
numbers_good k f fs e = elim (test (eqb (length fs) k)) [
  | inl q ↦ rw (eqb-suc-suc (length fs) k, q, numerals_good f fs e)
  | inr q ↦ rw (eqb-suc-suc (length fs) k, q)
]

joined-joined : (xs ys : List ℕ) (o : Option (List ℕ)) → joined xs (joined ys o) ≡ joined (xs ++ ys) o
unfolding joined
joined-joined xs ys none = refl
joined-joined xs ys (some ns) = ap some (sym (append_assoc xs ys ns))

joined_none : (xs : List ℕ) → joined xs none ≡ none
unfolding joined
joined_none xs = refl

joined-nil : (o : Option (List ℕ)) → joined [] o ≡ o
unfolding joined
joined-nil none = refl
joined-nil (some ns) = refl

-- ---- all fields

-- of all the numbers i are stored, and k − i are to come from the fields left
pub record Stored (all : Option (List ℕ)) (k i : ℕ) (out : List ℕ) (fields : List (List ℕ)) : Type 0 where
  pub inside : i ≤ k
  pub long : length out ≡ k
  pub so : all ≡ joined (take i out) (numbers_in (k - i) fields)

pub fields_start : (out : List ℕ) (fields : List (List ℕ)) → Stored (numbers_in (length out) fields) (length out) 0 out fields
fields_start out fields =
    record {
      inside = omega arith;
      long = refl;
      so = ap (λ (m : ℕ). numbers_in m fields) {x = length out} {y = length out - 0} (omega arith) ∙ sym (joined-nil (numbers_in (length out - 0) fields));
    }

module _ {all : Option (List ℕ)} {k i : ℕ} {out : List ℕ} {fields : List (List ℕ)} (s : Stored all k i out fields) where
  -- all are stored, and no field is left, or one is
  pub fields_end : length out ≤ i → fields ≡ [] → all ≡ some out
  unfolding joined
  fields_end h e =
      let z : k - i ≡ 0 = omega (arith, s.long) in
      s.so ∙ rw (z, e, numbers_end, append-nil, take_all i out h)

  pub fields_over : length out ≤ i → (f : List ℕ) (fs : List (List ℕ)) → fields ≡ f ∷ fs → all ≡ none
  fields_over h f fs e =
      let z : k - i ≡ 0 = omega (arith, s.long) in
      s.so ∙ rw (z, e, numbers_more, joined_none)

  module _ (l : i < length out) where
    one_less : k - i ≡ suc (k - (i + 1))
    one_less = omega (arith, s.long)

    pub fields_few : fields ≡ [] → all ≡ none
    fields_few e = s.so ∙ rw (one_less, e, numbers_none, joined_none)

    module _ (f : List ℕ) (fs : List (List ℕ)) (e : fields ≡ f ∷ fs) where
      pub fields_bad : is_numeral f ≡ false → all ≡ none
      fields_bad b = s.so ∙ rw (one_less, e, numbers_bad (suc (k - (i + 1))) f fs b, joined_none)

      pub fields_good : (v : ℕ) → is_numeral f ≡ true → decimal 0 f ≡ v → Stored all k (i + 1) (set out i v) fs
      fields_good v g d =
          record {
            inside = omega (arith, s.long);
            long = length-set out i v ∙ s.long;
            so =
                s.so
                ∙ rw (one_less, e, numbers_good (k - (i + 1)) f fs g, joined-joined, d)
                (ap (λ (x : List ℕ). joined x (numbers_in (k - (i + 1)) fs))
                (sym (take-suc-set out i v l) ∙ ap (λ (j : ℕ). take j (set out i v)) (sym (add-one i))));
          }

-- ---- what a field stands for

pub number_good : (f : List ℕ) (v : ℕ) → Some v ≡ numeral_of f → is_numeral f ≡ true
unfolding numeral_of
number_good f v p = elim (test (is_numeral f)) [
  | inl e ↦ e
  | inr e ↦
      let n : numeral_of f ≡ None = rw e in
      cc
]

pub number_value : (f : List ℕ) (v : ℕ) → Some v ≡ numeral_of f → decimal 0 f ≡ v
unfolding numeral_of
number_value f v p =
    let g : is_numeral f ≡ true = number_good f v p in
    let n : numeral_of f ≡ Some (decimal 0 f) = rw g in
    cc

pub number_bad : (f : List ℕ) → None ≡ numeral_of f → is_numeral f ≡ false
unfolding numeral_of
number_bad f p = elim (test (is_numeral f)) [
  | inl e ↦
      let n : numeral_of f ≡ Some (decimal 0 f) = rw e in
      cc
  | inr e ↦ e
]

-- ---- the bytes after a tab

pub left_some : (r : List ℕ) → fields_left (Some r) ≡ parts 9 r
unfolding fields_left
left_some r = refl

pub left_none : fields_left None ≡ []
unfolding fields_left
left_none = refl

-- ---- a line by its first field

module _ (letter k : ℕ) (line head : List ℕ) (fields : List (List ℕ)) (e : parts 9 line ≡ head ∷ fields) where
  pub line_long : (length head ≡ 1 → ⊥) → line_of letter k line ≡ none
  unfolding line_of numbers_of is_letter
  line_long ne = rw (e, ne_eqb (length head) 1 ne)

  pub line_other : length head ≡ 1 → {r : Bool} → r ≡ eqb (get_or head 0 0) letter → r ≡ false → line_of letter k line ≡ none
  unfolding line_of numbers_of is_letter
  line_other one is n = rw (e, eq-eqb (length head) 1 one, sym is ∙ n)

  pub line_fields : length head ≡ 1 → {r : Bool} → r ≡ eqb (get_or head 0 0) letter → r ≡ true → line_of letter k line ≡ numbers_in k fields
  unfolding line_of numbers_of is_letter numbers_in
  line_fields one is y = rw (e, eq-eqb (length head) 1 one, sym is ∙ y)
