-- How the look goes: the leading words that pass, and their values at 0.
-- Assumes nothing.
use Rattle.std.specs.Prelude.{ℕ, zero, suc, ◌-◌, ◌*◌, ◌%◌, Bool, cond, List, ltb, get_or}
use Rattle.std.proofs.lemmas.List.Edits.{sets}
use Rattle.lists.specs.Tabulate.{tab, sum_to}
use Rattle.field.specs.Field.{prime, product}
use Rattle.members.specs.Members.{size}
use Rattle.shares.specs.Layout.{share_word}
use Rattle.shares.specs.declared.Shares.{Shares}
use Rattle.parity.specs.Parity.{factorial, weight, balanced}

-- the share words of a station's shares: member i's word k
abbrev pub words : Shares → ℕ → ℕ → ℕ
words s = share_word s.shape.t s.shape.d s.words.now

-- how many of the first n numbers pass the test before one does not
unfoldable pub leading : ℕ → (ℕ → Bool) → ℕ
leading zero test = 0
leading (suc n) test = cond (test 0) (suc (leading n (λ k. test (suc k)))) 0

-- −(n − 1)!
unfoldable pub zero_scale : ℕ → ℕ
zero_scale n = product 65520 (factorial (n - 1) % prime)

-- The weight of member i for the value at 0. The points 0 to n − 1 have the same weights as 1 to n, so the value at 0 is had from the next
-- member's weights, and the last member is left out.
unfoldable pub zero_weight : ℕ → ℕ → ℕ
zero_weight n i = cond (ltb (suc i) n) (product (zero_scale n) (weight n (suc i))) 0

-- the value at 0 of the polynomial through the words of the first n − 1 members; of words that all n have on one of degree at most t, the value of that
unfoldable pub constant : ℕ → (ℕ → ℕ) → ℕ
constant n y = sum_to n (λ i. zero_weight n i * y i) % prime

-- the sum over the members of an entry of the row times the word
unfoldable pub dot : ℕ → List ℕ → (ℕ → ℕ) → ℕ
dot n row y = sum_to n (λ i. get_or row i 0 * y i) % prime

-- the leading words that pass, of d words of each of n = 2t + 1 members
unfoldable pub looked : ℕ → ℕ → (ℕ → ℕ → ℕ) → ℕ
looked t d y = leading d (λ k. balanced t (λ i. y i k))

-- the values at 0 of k words stored in front of a buffer
unfoldable pub with_values : ℕ → ℕ → (ℕ → ℕ → ℕ) → List ℕ → List ℕ
with_values t k y secret = sets secret 0 (tab k (λ j. constant (size t) (λ i. y i j)))
