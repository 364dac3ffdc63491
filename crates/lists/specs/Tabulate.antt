-- The first n numbers, 0 to n − 1: lists, tests, counts and sums over them.
-- Assumes nothing.
use Rattle.std.specs.Prelude.{ℕ, zero, suc, ◌+◌, Bool, true, false, ◌&&◌, cond, List, [], ◌∷◌, ◌++◌, map}
use Rattle.std.proofs.Math.Option.{Option, none, some}

-- f 0, f 1, .., f (n − 1)
unfoldable pub tab : {A : Type 0} → ℕ → (ℕ → A) → List A
tab zero f = []
tab (suc n) f = f 0 ∷ tab n (λ i. f (suc i))

-- every number below n passes the test
unfoldable pub all : ℕ → (ℕ → Bool) → Bool
all zero test = true
all (suc n) test = test 0 && all n (λ i. test (suc i))

-- how many numbers below n pass the test
unfoldable pub count : ℕ → (ℕ → Bool) → ℕ
count zero test = 0
count (suc n) test = cond (test 0) 1 0 + count n (λ i. test (suc i))

-- f 0 + f 1 + .. + f (n − 1)
unfoldable pub sum_to : ℕ → (ℕ → ℕ) → ℕ
sum_to zero f = 0
sum_to (suc n) f = f 0 + sum_to n (λ i. f (suc i))

-- the elements that pass the test, in order
unfoldable pub keep : {A : Type 0} → (A → Bool) → List A → List A
keep test [] = []
keep test (x ∷ xs) = elim (test x) [ true ↦ x ∷ keep test xs | false ↦ keep test xs ]

-- every element passes the test
unfoldable pub each : {A : Type 0} → (A → Bool) → List A → Bool
each test [] = true
each test (x ∷ xs) = test x && each test xs

-- the first element that passes the test
unfoldable pub first : {A : Type 0} → (A → Bool) → List A → Option A
first test [] = none
first test (x ∷ xs) = elim (test x) [ true ↦ some x | false ↦ first test xs ]

-- the lists one after the other
unfoldable pub concat : {A : Type 0} → List (List A) → List A
concat [] = []
concat (l ∷ ls) = l ++ concat ls

-- the ways to take k elements of a list, in the list's order
unfoldable pub choose : {A : Type 0} → ℕ → List A → List (List A)
choose zero xs = [] ∷ []
choose (suc k) [] = []
choose (suc k) (x ∷ xs) = map (λ l. x ∷ l) (choose k xs) ++ choose (suc k) xs
