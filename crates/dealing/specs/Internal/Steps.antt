-- The steps of dealing, for the contracts of the functions that take them.
-- Assumes nothing.
use Rattle.std.specs.Prelude.{ℕ, ◌+◌, ◌*◌, ◌<◌, ◌≡◌, List, [], ◌∷◌, length}
use Rattle.lists.specs.Tabulate.{tab, concat}
use Rattle.polynomial.specs.Polynomial.{value}
use Rattle.mac.specs.Tag.{tag}
use Rattle.members.specs.Members.{size, own_points}
use Rattle.shares.specs.Layout.{tagged}
use Rattle.shares.specs.declared.Shape.{Shape}
use Rattle.dealing.specs.Dealing.{random_length, polynomial, dealt_α, dealt_β, dealt_shares, deal}

-- as many secret and random words as a dealing of this shape takes
pub record Supplied (s : Shape) (secret random : List ℕ) : Type 0 where
  pub secret_long : length secret ≡ s.d
  pub random_long : length random ≡ random_length s.t s.d

-- key(i,j) stands at this place among the random words, β after α
pub record KeyAt (s : Shape) (i j place : ℕ) : Type 0 where
  pub stands : place ≡ s.t * s.d + 2 * (i * size s.t + j)
  pub inside : place + 1 < random_length s.t s.d

-- the polynomials at x
unfoldable pub words_at : ℕ → List ℕ → List ℕ → ℕ → List ℕ
words_at t secret random x = tab (length secret) (λ k. value (polynomial t secret random k) x)

-- tag(i,j) of the day and member i's share words, and tag(i,1) .. tag(i,n)
unfoldable pub tag_of : ℕ → ℕ → ℕ → List ℕ → ℕ → List ℕ → ℕ → ℕ
tag_of t d day random i words j = tag (dealt_α t d random j i) (dealt_β t d random j i) (tagged day words)

unfoldable pub tags_of : ℕ → ℕ → ℕ → List ℕ → ℕ → List ℕ → List ℕ
tags_of t d day random i words = tab (size t) (tag_of t d day random i words)

-- key(i,1) .. key(i,n)
unfoldable pub keys_of : ℕ → ℕ → List ℕ → ℕ → List ℕ
keys_of t d random i = concat (tab (size t) (λ j. dealt_α t d random i j ∷ dealt_β t d random i j ∷ []))

-- an input that is dealt, of this shape
pub record Accepted (t day : ℕ) (secret random buffer : List ℕ) (s : Shape) : Type 0 where
  pub threshold : s.t ≡ t
  pub supplied : Supplied s secret random
  pub room : length buffer ≡ s.n * s.width
  pub dealt : deal t day secret random buffer ≡ record { number = 0; shares = dealt_shares (own_points t) t day secret random }
