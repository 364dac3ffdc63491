-- Document 01's examples of the field, and corners that they leave open. Proved in proofs/Examples.antt.
use Rattle.std.specs.Prelude.{suc, ◌≡◌, true, false, get_or, replicate}
use Rattle.lists.specs.Tabulate.{tab}
use Rattle.field.specs.Field.{is_field_word, sum, difference, product, inverse, small_inverses}

-- C1: 65520 times 65520 is 1
abbrev pub C1 : Type 0
C1 = product 65520 65520 ≡ 1

-- C2: the inverse of 2 is 32761
abbrev pub C2 : Type 0
C2 = inverse 2 ≡ 32761

pub record Examples : Type 0 where
  pub c1 : C1
  pub c2 : C2
  pub last_field_word : is_field_word 65520 ≡ true
  pub no_field_word : is_field_word 65521 ≡ false
  -- a sum and a difference that pass p
  pub sum_wraps : sum 65520 1 ≡ 0
  pub difference_wraps : difference 0 1 ≡ 65520
  pub difference_plain : difference 5 3 ≡ 2
  -- words above 65520 are taken modulo p, on either side
  pub sum_reduces : sum 65535 65535 ≡ 28
  pub difference_reduces : difference 3 65535 ≡ 65510
  pub product_reduces : product 65523 65524 ≡ 6
  pub product_of_p : product 65521 65535 ≡ 0
  -- the inverse of 0, also where it is written 65521; of p − 1; of a word above 65520
  pub inverse_of_0 : inverse 0 ≡ 0
  pub inverse_of_p : inverse 65521 ≡ 0
  pub inverse_of_last : inverse 65520 ≡ 65520
  pub inverse_reduces : inverse 65523 ≡ 32761
  -- each of the 30 entries of the table times its number is 1
  pub table : tab 30 (λ i. product (suc i) (get_or small_inverses i 0)) ≡ replicate 30 1
