-- A test of every element with its place.
-- Assumes nothing.
use Rattle.std.proofs.Common.{◌≡◌, ℕ, suc, ◌+◌, Bool, ◌&&◌, List, [], ◌∷◌, length, get_or, refl, ap, ap₂, ◌∙◌, arith}
use Rattle.std.specs.List.{list_all, enumerate_from}
use Rattle.lists.specs.Tabulate.{all}
use Rattle.lists.proofs.Tabulate.{all_ext}

all_from : {A : Type 0} (test : ℕ × A → Bool) (d : A) (k : ℕ) (xs : List A) → list_all test (enumerate_from k xs) ≡ all (length xs) (λ i. test (k + i, get_or xs i d))
unfolding all
all_from test d k [] = refl
all_from test d k (x ∷ xs) =
    ap₂ ◌&&◌ (ap (λ (n : ℕ). test (n, x)) (omega arith))
    (all_from test d (k + 1) xs
    ∙ all_ext (length xs) (λ i. test (k + 1 + i, get_or xs i d)) (λ i. test (k + suc i, get_or xs i d)) (λ i h. ap (λ (n : ℕ). test (n, get_or xs i d)) (omega arith)))

pub all_enumerated : {A : Type 0} (test : ℕ × A → Bool) (d : A) (xs : List A) → list_all test (enumerate_from 0 xs) ≡ all (length xs) (λ i. test (i, get_or xs i d))
all_enumerated test d xs =
    all_from test d 0 xs ∙ all_ext (length xs) (λ i. test (0 + i, get_or xs i d)) (λ i. test (i, get_or xs i d)) (λ i h. ap (λ (n : ℕ). test (n, get_or xs i d)) (omega arith))
