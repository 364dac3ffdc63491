-- What is written is read back: its P lines give the shares of the present members, and so the reader's answer is what was written.
-- Assumes nothing.
use mathlib.Core.Path.{◌≡◌, refl, sym, ap, ap₂, ◌∙◌, subst}
use mathlib.Core.Logic.{inl, inr}
use mathlib.Core.Bool.{Bool, true, false, cond}
use mathlib.Core.Option.{none, some}
use mathlib.Core.List.{List, [], ◌∷◌, ◌++◌, append_assoc, append-nil}
use Prim.Native.Nat.{ℕ, zero, suc, ◌+◌, ◌-◌, ◌*◌, ◌^◌, ◌≤◌, ◌<◌}
use native.Mathlib.Nat.{not-suc-le-zero}
use native.Mathlib.Omega.{arith}
use borrow.Author.Tests.{le-leb, eqb-true, eqb-false}
use lib.Dec.{eqb}
use lib.ListN.{length, get_or, replicate}
use Rattle.lists.specs.Ascii.{ascii}
use Rattle.lists.specs.Tabulate.{tab, concat, first}
use Rattle.lists.proofs.Bools.{test}
use Rattle.lists.proofs.Checks.{within_intro}
use Rattle.lists.proofs.Every as E
use Rattle.lists.proofs.Tabulate.{length-tab, tab_ext}
use Rattle.members.specs.Members.{size, has, set_of}
use Rattle.members.proofs.Masks.{set_of_ext, set_of-has}
use Rattle.shares.specs.Layout.{is_length, is_day, width, capacity, word, share}
use Rattle.shares.specs.Internal.Shape.{InRange}
use Rattle.shares.proofs.Shapes.{is_a_threshold}
use Rattle.shares.proofs.Tests.{day_below}
use Rattle.text.specs.Lines.{parts, line_of}
use Rattle.text.proofs.Parts.{parts_some}
use Rattle.text.proofs.RoundTrip.{body, line_first, line-back}
use Rattle.handin.specs.Reader.{HandIn, Share, share_of, is_some, words_or, shares, take_share, take_numbers, take_line, take_lines, placed, read_from, read_numbers, read_lines, read}
use Rattle.handin.specs.Writer.{share_line, share_lines, text_of}
use Rattle.handin.proofs.Placing.{share_same, share_other}
use Rattle.handin.proofs.Reaching.{lines_next, lines_end}
use Rattle.handin.proofs.TextLength.{few, share_small, text_short}
use Rattle.handin.proofs.Writing.{lines_more}

-- a share where the test passes
is_some_lem : (b : Bool) (s : Share) → is_some (cond b (some s) none) ≡ b
unfolding is_some
is_some_lem true s = refl
is_some_lem false s = refl

words_or_lem : (zeros : List ℕ) (b : Bool) (s : Share) → words_or zeros (cond b (some s) none) ≡ cond b s.words zeros
unfolding words_or
words_or_lem zeros true s = refl
words_or_lem zeros false s = refl

module _ (t d : ℕ) (range : InRange t d) (words : List ℕ) (small : (k : ℕ) → get_or words k 0 < 65536) (present : ℕ) where
  -- ---- what the P lines come to

  -- member i's share as it was written
  abbrev mine : ℕ → Share
  mine i = record { member = i; words = share t d words i }

  -- the shares of those of the first n members that are present, the last one first
  handed : ℕ → List Share
  handed zero = []
  handed (suc n) = cond (has present n) (mine n ∷ handed n) (handed n)

  -- by member: a member that is not reached yet, the last one, any one of them
  handed_above : (n i : ℕ) → n ≤ i → share_of (handed n) i ≡ none
  unfolding handed share_of first
  handed_above zero i h = refl
  handed_above (suc n) i h = elim (test (has present n)) [
    | inl e ↦ rw e (share_other (mine n) (handed n) i (λ q. omega (arith, h, q)) ∙ handed_above n i (omega (arith, h)))
    | inr e ↦ rw e (handed_above n i (omega (arith, h)))
  ]

  handed_last : (n : ℕ) → share_of (handed (suc n)) n ≡ cond (has present n) (some (mine n)) none
  unfolding handed
  handed_last n = elim (test (has present n)) [
    | inl e ↦ rw e (share_same (mine n) (handed n) n refl)
    | inr e ↦ rw e (handed_above n n (omega arith))
  ]

  handed_below : (n i : ℕ) → i < n → share_of (handed n) i ≡ cond (has present i) (some (mine i)) none
  unfolding handed
  handed_below zero i h = absurd (not-suc-le-zero h)
  handed_below (suc n) i h = elim (test (eqb i n)) [
    | inl q ↦ subst (λ (j : ℕ). share_of (handed (suc n)) j ≡ cond (has present j) (some (mine j)) none) (sym (eqb-true i n q)) (handed_last n)
    | inr q ↦
        let l : i < n = omega (arith, h, eqb-false i n q) in
        elim (test (has present n)) [
          | inl e ↦ rw e (share_other (mine n) (handed n) i (eqb-false i n q) ∙ handed_below n i l)
          | inr e ↦ rw e (handed_below n i l)
        ]
  ]

  -- a line is taken where its member was not met
  line_taken : (i : ℕ) (taken : List Share) → i < size t → share_of taken i ≡ none
      → take_line t d taken (body 80 (suc i ∷ share t d words i)) ≡ shares (mine i ∷ taken)
  unfolding take_line take_numbers take_share is_some
  line_taken i taken h e =
      let at_most : size t ≤ 31 = few t d range in
      let long : suc (length (share t d words i)) ≡ 1 + width t d = omega (arith, length-tab (width t d) (word t d words i)) in
      let back : line_of 80 (1 + width t d) (body 80 (suc i ∷ share t d words i)) ≡ some (suc i ∷ share t d words i) =
      ap (λ (k : ℕ). line_of 80 k (body 80 (suc i ∷ share t d words i))) (sym long)
      ∙ line-back 80 (suc i ∷ share t d words i) (λ q. omega (arith, q)) (E.more (omega (arith, h, at_most)) (share_small t d range words small i)) in
      let from_0 : suc i - 1 ≡ i = omega arith in
      rw (back, from_0, within_intro 1 (size t) (suc i) (omega arith) (omega (arith, h)), e)

  -- the next member's line, or none
  line_next : (n : ℕ) → n < size t → (rest : List ℕ)
      → take_lines t d (handed n) (parts 10 (cond (has present n) (share_line t d words n) [] ++ rest)) ≡ take_lines t d (handed (suc n)) (parts 10 rest)
  unfolding handed share_line ascii
  line_next n h rest =
      let ns : List ℕ = suc n ∷ share t d words n in
      elim (test (has present n)) [
        | inl e ↦
            rw e
            (ap (take_lines t d (handed n)) (line_first 80 ns rest (λ q. omega (arith, q)))
            ∙ lines_next t d (handed n) (body 80 ns) rest (mine n ∷ handed n) (line_taken n (handed n) h (handed_above n n (omega arith))))
        | inr e ↦ rw e
      ]

  -- the lines of the first n members, and what follows them
  lines_come : (n : ℕ) → n ≤ size t → (rest : List ℕ)
      → take_lines t d [] (parts 10 (share_lines t d present words n ++ rest)) ≡ take_lines t d (handed n) (parts 10 rest)
  unfolding share_lines tab concat handed
  lines_come zero h rest = refl
  lines_come (suc n) h rest =
      let next : List ℕ = cond (has present n) (share_line t d words n) [] in
      ap (λ (l : List ℕ). take_lines t d [] (parts 10 (l ++ rest))) (lines_more t d present words n)
      ∙ ap (λ (l : List ℕ). take_lines t d [] (parts 10 l)) (append_assoc (share_lines t d present words n) next rest)
      ∙ lines_come n (omega (arith, h)) (next ++ rest)
      ∙ line_next n h rest

  lines_taken : take_lines t d [] (parts 10 (share_lines t d present words (size t))) ≡ shares (handed (size t))
  lines_taken =
      ap (λ (l : List ℕ). take_lines t d [] (parts 10 l)) (sym (append-nil (share_lines t d present words (size t))))
      ∙ lines_come (size t) (omega arith) []
      ∙ lines_end t d (handed (size t))

  -- ---- the answer

  -- present members' shares, and zeros for the others
  abbrev kept : List ℕ
  kept = concat (tab (size t) (λ i. cond (has present i) (share t d words i) (replicate (width t d) 0)))

  handed_members : present < 2 ^ size t → set_of (size t) (λ i. is_some (share_of (handed (size t)) i)) ≡ present
  handed_members h =
      set_of_ext (size t) (λ i. is_some (share_of (handed (size t)) i)) (has present)
      (λ i l. ap is_some (handed_below (size t) i l) ∙ is_some_lem (has present i) (mine i))
      ∙ set_of-has (size t) present h

  handed_placed : placed t d (handed (size t)) ≡ kept ++ replicate (capacity - size t * width t d) 0
  unfolding placed
  handed_placed =
      let zeros : List ℕ = replicate (width t d) 0 in
      ap (λ (ls : List (List ℕ)). concat ls ++ replicate (capacity - size t * width t d) 0)
      (tab_ext (size t) (λ i. words_or zeros (share_of (handed (size t)) i)) (λ i. cond (has present i) (share t d words i) zeros)
      (λ i l. ap (words_or zeros) (handed_below (size t) i l) ∙ words_or_lem zeros (has present i) (mine i)))

  module _ (quorum : ℕ) (low : quorum < 65536) (day : ℕ) (is_a_day : is_day day ≡ true) (inside : present < 2 ^ size t) where
    small_day : day < 65536
    small_day = omega (arith, day_below day is_a_day)

    abbrev answer : HandIn
    answer =
        record { number = 0; t = t; d = d; quorum = quorum; day = day; present = present; words = kept ++ replicate (capacity - size t * width t d) 0 }

    answer_from : read_from capacity t d quorum day (take_lines t d [] (parts 10 (share_lines t d present words (size t)))) ≡ answer
    unfolding read_from
    answer_from =
        ap (read_from capacity t d quorum day) lines_taken
        ∙ ap₂ (λ (p : ℕ) (ws : List ℕ). let a : HandIn = record { number = 0; t = t; d = d; quorum = quorum; day = day; present = p; words = ws } in a)
        (handed_members inside) handed_placed

    answer_lines : read_lines capacity (parts 10 (text_of t d quorum day present words)) ≡ answer
    unfolding read_lines read_numbers text_of ascii
    answer_lines =
        let ns : List ℕ = t ∷ d ∷ quorum ∷ day ∷ [] in
        let lines : List ℕ = share_lines t d present words (size t) in
        let back : line_of 68 4 (body 68 ns) ≡ some ns =
        line-back 68 ns (λ q. omega (arith, q))
        (E.more (omega (arith, range.t_high)) (E.more (omega (arith, range.d_high)) (E.more low (E.more small_day E.none)))) in
        let p : (x : List ℕ) × (xs : List (List ℕ)) × (parts 10 lines ≡ x ∷ xs) = parts_some 10 lines in
        let long : is_length d ≡ true = within_intro 1 64 d range.d_low range.d_high in
        rw (line_first 68 ns lines (λ q. omega (arith, q)), p.2, back, ← p.2, is_a_threshold t d range, long, is_a_day) answer_from

    pub read_back : read (text_of t d quorum day present words) capacity ≡ answer
    unfolding read
    read_back =
        let short : length (text_of t d quorum day present words) ≤ 40000 = omega (arith, text_short t d range words small present quorum low day small_day) in
        rw (le-leb (length (text_of t d quorum day present words)) 40000 short) answer_lines
