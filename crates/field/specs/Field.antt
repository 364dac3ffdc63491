-- The field of document 01: words added and multiplied modulo the prime p = 65521. A word above 65520 is taken modulo p.
-- Assumes nothing.
use Rattle.std.specs.Prelude.{ℕ, zero, suc, ◌+◌, ◌-◌, ◌*◌, ◌/◌, ◌%◌, ◌^◌, Bool, List, ltb}
use Rattle.lists.specs.Tabulate.{tab}

-- p
abbrev pub prime : ℕ
prime = 65521

-- a word that is a field word: 0 to 65520
abbrev pub is_field_word : ℕ → Bool
is_field_word a = ltb a prime

unfoldable pub sum : ℕ → ℕ → ℕ
sum a b = (a + b) % prime

-- a − b
unfoldable pub difference : ℕ → ℕ → ℕ
difference a b = (a + (prime - b % prime)) % prime

unfoldable pub product : ℕ → ℕ → ℕ
product a b = a * b % prime

-- a to the power k modulo p, for k below 2 to the power f, by squaring
unfoldable pub power : ℕ → ℕ → ℕ → ℕ
power zero a k = 1
power (suc f) a k = a ^ (k % 2) * power f (a * a % prime) (k / 2) % prime

-- the inverse is the power p − 2; that of 0 is 0
unfoldable pub inverse : ℕ → ℕ
inverse a = power 16 a (prime - 2)

-- the short table: the inverses of 1 to 30
unfoldable pub small_inverses : List ℕ
small_inverses = tab 30 (λ i. inverse (suc i))
