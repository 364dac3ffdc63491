-- Laws of P lines as the code takes them.
-- Assumes nothing.
use Rattle.std.proofs.Common.{◌≡◌, sym, ap, ◌∙◌, ℕ, ◌+◌, ◌-◌, ◌*◌, ◌≤◌, ◌<◌, Bool, true, false, List, ◌∷◌, ◌++◌, length, get_or, take, drop, append_assoc, arith, length-drop, length-take-le}
use Rattle.std.proofs.Math.Option.{none, some}
use Rattle.std.proofs.Math.Seq.{sets, sets-eq, drop-drop}
use Rattle.std.specs.Prelude.{Result, Ok, Err}
use borrow.Rule.Slice.PartMut.{put_mid}
use Rattle.lists.specs.Checks.{within}
use Rattle.lists.proofs.Checks.{within_low, within_high}
use Rattle.members.specs.Members.{size, has, adding}
use Rattle.shares.specs.Layout.{capacity}
use Rattle.shares.proofs.Shapes.{station, share_inside}
use Rattle.shares.specs.declared.Shape.{Shape}
use Rattle.text.specs.Lines.{line_of}
use Rattle.refusals.specs.declared.Refusal.{Refusal}
use Rattle.refusals.specs.declared.Refusal.TheVariants.{BadLine, BadLineMember}
use Rattle.handin.specs.Reader.{Share, share_of, is_some, shares, take_share, take_numbers, take_line}
use Rattle.handin.specs.Internal.Progress.{Holds, Comes}
use Rattle.handin.proofs.Placing.{holds_met, holds_more}

-- words copied to a part from a place on are stored there
pub put_mid-sets : {A : Type 0} (at k : ℕ) (xs ys : List A) → length ys ≡ k → at + k ≤ length xs → put_mid at k xs ys ≡ sets xs at ys
put_mid-sets at k xs ys e h =
    ap (λ r. take at xs ++ (ys ++ r)) (drop-drop k at xs ∙ ap (λ n. drop (at + n) xs) (sym e))
    ∙ sym (append_assoc (take at xs) ys (drop (at + length ys) xs))
    ∙ sym (sets-eq ys xs at (omega arith))

-- a member that is one of 1 to n, counted from 0
pub member_inside : (n m : ℕ) → within 1 n m ≡ true → m - 1 < n
member_inside n m one = omega (arith, within_low 1 n m one, within_high 1 n m one)

module _ (s : Shape) where
  -- the place of a share ends in the buffer
  pub share_room : (m : ℕ) → within 1 s.n m ≡ true → (m - 1) * s.width + s.width ≤ 4867
  share_room m one = omega (arith, share_inside s (m - 1) (member_inside s.n m one), (station s).all_fit)

  -- a P line's numbers fit 158 words
  pub narrow : (l : List ℕ) → length l ≡ 158 → length (take (1 + s.width) l) ≡ 1 + s.width
  narrow l e = length-take-le (1 + s.width) l (omega (arith, (station s).narrow, e))

  module _ (present : ℕ) (ns words ws : List ℕ) where
    one_of : {b : Bool} → within 1 s.n (get_or ns 0 0) ≡ b → within 1 (size s.t) (get_or ns 0 0) ≡ b
    one_of e = ap (λ (n : ℕ). within 1 n (get_or ns 0 0)) (sym s.members) ∙ e

    -- a member that is not one of 1 to n
    pub take_out : within 1 s.n (get_or ns 0 0) ≡ false → (taken : List Share) → Holds s.t s.d taken present words
        → Comes s.t s.d (take_numbers s.t taken (some ns)) (Err BadLineMember) ws
    unfolding Comes take_numbers take_share
    take_out h taken holds = rw (one_of h)

    module _ (one : within 1 s.n (get_or ns 0 0) ≡ true) where
      inside : get_or ns 0 0 - 1 < size s.t
      inside = member_inside (size s.t) (get_or ns 0 0) (one_of one)

      -- one that was met before
      pub take_met : has present (get_or ns 0 0 - 1) ≡ true → (taken : List Share) → Holds s.t s.d taken present words
          → Comes s.t s.d (take_numbers s.t taken (some ns)) (Err BadLineMember) ws
      unfolding Comes take_numbers take_share
      take_met h taken holds =
          let met : is_some (share_of taken (get_or ns 0 0 - 1)) ≡ true =
          sym (holds_met s.t s.d taken present words holds (get_or ns 0 0 - 1) inside) ∙ h in
          rw (one_of one, met)

      accepted : (taken : List Share) (share : List ℕ) → is_some (share_of taken (get_or ns 0 0 - 1)) ≡ false
          → take_share s.t taken (get_or ns 0 0) share ≡ shares (record { member = get_or ns 0 0 - 1; words = share } ∷ taken)
      unfolding take_share
      accepted taken share b = rw (one_of one, b)

      -- one that was not: its share is stored
      pub take_in : (m : ℕ) → has present (get_or ns 0 0 - 1) ≡ false → length ns ≡ 1 + s.width → length words ≡ capacity
          → ws ≡ put_mid ((get_or ns 0 0 - 1) * s.width) ((get_or ns 0 0 - 1) * s.width + s.width - (get_or ns 0 0 - 1) * s.width) words (drop 1 ns)
          → m ≡ adding present (get_or ns 0 0 - 1)
          → (taken : List Share) → Holds s.t s.d taken present words → Comes s.t s.d (take_numbers s.t taken (some ns)) (Ok m) ws
      unfolding Comes take_numbers
      take_in m h len all w a taken holds =
          let i : ℕ = get_or ns 0 0 - 1 in
          let unmet : is_some (share_of taken i) ≡ false = sym (holds_met s.t s.d taken present words holds i inside) ∙ h in
          let small : size s.t ≤ 32 = omega (arith, s.members, (station s).few) in
          let share : length (drop 1 ns) ≡ s.width = omega (arith, length-drop 1 ns) in
          let room : i * s.width + s.width ≤ length words =
          omega (arith, share_room (get_or ns 0 0) one) in
          let stored : ws ≡ sets words (i * s.width) (drop 1 ns) =
          w ∙ put_mid-sets (i * s.width) (i * s.width + s.width - i * s.width) words (drop 1 ns) (omega (arith, share)) (omega (arith, room)) in (
            record { member = i; words = drop 1 ns } ∷ taken,
            accepted taken (drop 1 ns) unmet,
            rw (a, stored, s.share) (holds_more s.t s.d taken present words holds i (drop 1 ns) small inside (share ∙ s.share)),
          )

  -- a line's numbers: of the wrong shape, and of the right one
  module _ (present : ℕ) (words ws line : List ℕ) where
    numbered : (taken : List Share) → take_line s.t s.d taken line ≡ take_numbers s.t taken (line_of 80 (1 + s.width) line)
    unfolding take_line
    numbered taken = ap (λ (k : ℕ). take_numbers s.t taken (line_of 80 (1 + k) line)) (sym s.share)

    pub take_none : line_of 80 (1 + s.width) line ≡ none → (taken : List Share) → Holds s.t s.d taken present words
        → Comes s.t s.d (take_line s.t s.d taken line) (Err BadLine) ws
    unfolding Comes take_numbers
    take_none e taken holds = numbered taken ∙ rw e

    pub take_some : (ns : List ℕ) (r : Result ℕ Refusal) → line_of 80 (1 + s.width) line ≡ some ns
        → ((taken : List Share) → Holds s.t s.d taken present words → Comes s.t s.d (take_numbers s.t taken (some ns)) r ws)
        → (taken : List Share) → Holds s.t s.d taken present words → Comes s.t s.d (take_line s.t s.d taken line) r ws
    take_some ns r e f taken holds = rw (numbered taken, e) (f taken holds)
