-- A text that is read has t and d in range.
-- Assumes nothing.
use mathlib.Core.Path.{◌≡◌, refl, sym, ap, ◌∙◌}
use mathlib.Core.Logic.{inl, inr}
use mathlib.Core.Bool.{Bool, true, false, not}
use mathlib.Core.Option.{Option, none, some}
use mathlib.Core.List.{List, [], ◌∷◌}
use Prim.Native.Nat.{ℕ, ◌+◌, ◌-◌, ◌≤◌}
use native.Mathlib.Omega.{arith}
use lib.Dec.{leb, eqb}
use lib.ListN.{length, get_or, drop}
use Rattle.lists.specs.Checks.{Check, ◌unless◌, checked, within}
use Rattle.lists.specs.Tabulate.{each}
use Rattle.lists.proofs.Bools.{test}
use Rattle.lists.proofs.Checks.{check_fails, check_passes, checked_holds, all-passed}
use Rattle.lists.proofs.Every.{more as every_more, none as every_none}
use Rattle.members.specs.Members.{size, is_threshold}
use Rattle.shares.specs.Layout.{width, is_length, is_day, capacity}
use Rattle.shares.specs.Internal.Shape.{InRange}
use Rattle.shares.proofs.Shapes.{in_range}
use Rattle.text.specs.Lines.{parts, line_of}
use Rattle.handin.specs.Reader.{HandIn, Share, share_of, is_some, Taken, shares, refused, take_share, take_numbers, take_line, take_lines, unread, read_from, read_numbers, read_lines, read}

-- a refusal's number is not 0
record Told (k : ℕ) : Type 0 where
  low : 1 ≤ k

abbrev ToldBy : Taken → Type 0
ToldBy (shares taken) = Unit {0}
ToldBy (refused k) = Told k

told_share : (a b : Bool) (r : List Share) → ToldBy (elim a [ true ↦ elim b [ true ↦ shares r | false ↦ refused 24 ] | false ↦ refused 24 ])
told_share true true r = tt
told_share true false r = record { low = omega arith }
told_share false b r = record { low = omega arith }

told_numbers : (t : ℕ) (taken : List Share) (o : Option (List ℕ)) → ToldBy (take_numbers t taken o)
unfolding take_numbers take_share
told_numbers t taken none = record { low = omega arith }
told_numbers t taken (some ns) =
    told_share (within 1 (size t) (get_or ns 0 0)) (not (is_some (share_of taken (get_or ns 0 0 - 1))))
    (record { member = get_or ns 0 0 - 1; words = drop 1 ns } ∷ taken)

told_lines : (t d : ℕ) (taken : List Share) (lines : List (List ℕ)) → ToldBy (take_lines t d taken lines)
unfolding take_lines take_line
told_lines t d taken [] = tt
told_lines t d taken ([] ∷ []) = tt
told_lines t d taken ((b ∷ bs) ∷ []) = record { low = omega arith }
told_lines t d taken (head ∷ next ∷ more) =
    at (take_line t d taken head) (told_numbers t taken (line_of 80 (1 + width t d) head)) (λ now. told_lines t d now (next ∷ more))
  where
    at : (r : Taken) → ToldBy r → ((now : List Share) → ToldBy (take_lines t d now (next ∷ more)))
        → ToldBy (elim r [ shares now ↦ take_lines t d now (next ∷ more) | refused k ↦ refused k ])
    at (shares now) h rest = rest now
    at (refused k) h rest = h

-- an answer with the number 0 has t and d in range
pub record Sound (a : HandIn) : Type 0 where
  pub ranged : a.number ≡ 0 → InRange a.t a.d

module _ (len : ℕ) where
  sound-unread : (k : ℕ) → Told k → Sound (unread len k)
  unfolding unread
  sound-unread k h = record { ranged = λ z. absurd (omega (arith, h.low)) }

  22_told : Told 22
  22_told = record { low = omega arith }

  sound_from : (t d quorum day : ℕ) (r : Taken) → ToldBy r → InRange t d → Sound (read_from len t d quorum day r)
  unfolding read_from
  sound_from t d quorum day (shares taken) h i = record { ranged = λ z. i }
  sound_from t d quorum day (refused k) h i = sound-unread k h

  -- the answer for t and d that passed their checks
  sound-checked : (t d day : ℕ) (answer : HandIn) → (InRange t d → Sound answer)
      → Sound (checked (unread len) (22 unless is_threshold t ∷ 22 unless is_length d ∷ 22 unless is_day day ∷ []) answer)
  sound-checked t d day answer h =
      let last : List Check = 22 unless is_day day ∷ [] in
      elim (test (is_threshold t)) [
        | inr e ↦ rw (check_fails (unread len) 22 (is_threshold t) (22 unless is_length d ∷ last) answer e) (sound-unread 22 22_told)
        | inl e ↦
            rw (check_passes (unread len) 22 (is_threshold t) (22 unless is_length d ∷ last) answer e)
            (elim (test (is_length d)) [
              | inr f ↦ rw (check_fails (unread len) 22 (is_length d) last answer f) (sound-unread 22 22_told)
              | inl f ↦
                  rw (check_passes (unread len) 22 (is_length d) last answer f)
                  (checked_holds (unread len) Sound last (every_more (sound-unread 22 22_told) every_none) answer (h (in_range t d e f)))
            ])
      ]

  sound_numbers : (o : Option (List ℕ)) (lines : List (List ℕ)) → Sound (read_numbers len o lines)
  unfolding read_numbers
  sound_numbers none lines = sound-unread 22 22_told
  sound_numbers (some ns) lines =
      sound-checked (get_or ns 0 0) (get_or ns 1 0) (get_or ns 3 0)
      (read_from len (get_or ns 0 0) (get_or ns 1 0) (get_or ns 2 0) (get_or ns 3 0) (take_lines (get_or ns 0 0) (get_or ns 1 0) [] lines))
      (sound_from (get_or ns 0 0) (get_or ns 1 0) (get_or ns 2 0) (get_or ns 3 0) (take_lines (get_or ns 0 0) (get_or ns 1 0) [] lines)
      (told_lines (get_or ns 0 0) (get_or ns 1 0) [] lines))

  sound_lines : (lines : List (List ℕ)) → Sound (read_lines len lines)
  unfolding read_lines
  sound_lines [] = sound-unread 22 22_told
  sound_lines (end ∷ []) = sound-unread 22 22_told
  sound_lines (head ∷ next ∷ more) = sound_numbers (line_of 68 4 head) (next ∷ more)

  pub sound : (text : List ℕ) → Sound (read text len)
  unfolding read unread each
  sound text =
      let answer : HandIn = read_lines len (parts 10 text) in
      let checks : List Check = 25 unless eqb len capacity ∷ 21 unless leb (length text) 40000 ∷ [] in
      let s : Sound answer = sound_lines (parts 10 text) in
      record {
        ranged = λ z.
            let e : read text len ≡ answer = all-passed (unread len) (λ a. a.number) (λ k. refl) checks refl answer z in
            rw e (s.ranged (ap (λ (a : HandIn). a.number) (sym e) ∙ z));
      }
