-- A station's members, and sets of them as masks. Here members are counted from 0: document 01's member i is i − 1, with the value 2 ^ (i − 1).
-- Assumes nothing.
use Rattle.std.specs.Prelude.{ℕ, zero, suc, ◌+◌, ◌*◌, ◌/◌, ◌%◌, ◌^◌, Bool, cond, ◌&&◌, ◌||◌, not, List, eqb, ltb}
use Rattle.lists.specs.Tabulate.{tab, count, keep}
use Rattle.lists.specs.Checks.{within}

-- t is 1 to 15
abbrev pub is_threshold : ℕ → Bool
is_threshold t = within 1 15 t

-- how many members a station has: n = 2t + 1
unfoldable pub size : ℕ → ℕ
size t = 2 * t + 1

-- the members' own points, 1 to n
unfoldable pub own_points : ℕ → List ℕ
own_points t = tab (size t) (λ i. suc i)

-- the binary digit of a mask at i
unfoldable pub bit : ℕ → ℕ → ℕ
bit zero mask = mask % 2
bit (suc i) mask = bit i (mask / 2)

-- member i is in the set
unfoldable pub has : ℕ → ℕ → Bool
has mask i = eqb (bit i mask) 1

-- the set of those of n members that pass the test
unfoldable pub set_of : ℕ → (ℕ → Bool) → ℕ
set_of zero test = 0
set_of (suc n) test = cond (test 0) 1 0 + 2 * set_of n (λ i. test (suc i))

-- the mask has no bit beyond the n members
abbrev pub is_set : ℕ → ℕ → Bool
is_set n mask = ltb mask (2 ^ n)

-- how many of n members are in the set
unfoldable pub card : ℕ → ℕ → ℕ
card n mask = count n (has mask)

-- those of n members that are in the set, in order
unfoldable pub members_of : ℕ → ℕ → List ℕ
members_of n mask = keep (has mask) (tab n (λ i. i))

-- ---- a mask is a word of 32 bits, so the members that it can hold are 0 to 31

-- the set with member i; one that a mask cannot hold is left out
unfoldable pub adding : ℕ → ℕ → ℕ
adding mask i = set_of 32 (λ j. has mask j || eqb j i)

-- the set without member i
unfoldable pub striking : ℕ → ℕ → ℕ
striking mask i = set_of 32 (λ j. has mask j && not (eqb j i))

-- the first n members, or the 32 that a mask can hold
unfoldable pub first_of : ℕ → ℕ
first_of n = set_of 32 (λ i. ltb i n)

-- how many members two sets have in common
unfoldable pub common : ℕ → ℕ → ℕ
common a b = count 32 (λ j. has a j && has b j)
