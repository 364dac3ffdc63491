-- Laws of a station's shape.
-- Assumes nothing.
use mathlib.Core.Path.{◌≡◌}
use mathlib.Core.Bool.{true}
use Prim.Native.Nat.{ℕ, ◌+◌, ◌*◌, ◌≤◌, ◌<◌}
use Rattle.lists.proofs.Checks.{within_intro, within_low, within_high}
use Rattle.members.specs.Members.{is_threshold}
use Rattle.shares.specs.Layout.{is_length}
use Rattle.shares.specs.Internal.Shape.{InRange, Station}
use Rattle.shares.specs.declared.Shape.{Shape}
use Rattle.shares.proofs.Places.{row_inside}

-- what the checks of t and d show
pub in_range : (t d : ℕ) → is_threshold t ≡ true → is_length d ≡ true → InRange t d
in_range t d p q = record { t_low = within_low 1 15 t p; t_high = within_high 1 15 t p; d_low = within_low 1 64 d q; d_high = within_high 1 64 d q }

pub is_a_threshold : (t d : ℕ) → InRange t d → is_threshold t ≡ true
is_a_threshold t d r = within_intro 1 15 t r.t_low r.t_high

-- a shape is that of a station
pub station : (s : Shape) → Station s
station s =
    record {
      range = record { t_low = s.t_low; t_high = s.t_high; d_low = s.d_low; d_high = s.d_high };
      members = s.members;
      share = s.share;
      parts = s.parts;
      few = s.few;
      narrow = s.narrow;
      all_fit = s.fit;
    }

-- one of the shares is among all of them
pub share_inside : (s : Shape) (i : ℕ) → i < s.n → i * s.width + s.width ≤ s.n * s.width
share_inside s i h = row_inside i s.n s.width h
