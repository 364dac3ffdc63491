-- A station's shape as the code hands it on.
-- Assumes nothing.
use Rattle.std.specs.Prelude.{ℕ, ◌+◌, ◌*◌, ◌≤◌, ◌≡◌}
use Rattle.members.specs.Members.{size}
use Rattle.shares.specs.Layout.{width, capacity}
use Rattle.shares.specs.declared.Shape.{Shape}

-- t is 1 to 15, d is 1 to 64
pub record InRange (t d : ℕ) : Type 0 where
  pub t_low : 1 ≤ t
  pub t_high : t ≤ 15
  pub d_low : 1 ≤ d
  pub d_high : d ≤ 64

-- a shape is one for t and d in range; what follows in numbers stands beside it
pub record Station (s : Shape) : Type 0 where
  pub range : InRange s.t s.d
  pub members : s.n ≡ size s.t
  pub share : s.width ≡ width s.t s.d
  pub parts : s.width ≡ s.d + 3 * s.n
  pub few : s.n ≤ 31
  pub narrow : s.width ≤ 157
  pub all_fit : s.n * s.width ≤ capacity
