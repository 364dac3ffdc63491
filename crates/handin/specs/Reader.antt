-- The reader of hand-in text (document 01; document 02, W-205): a D line, then P lines, one after the other.
-- Assumes nothing.
use Rattle.std.specs.Prelude.{ℕ, ◌+◌, ◌-◌, ◌*◌, Bool, true, false, not, List, [], ◌∷◌, ◌++◌, leb, eqb, length, get_or, drop, replicate}
use Rattle.std.proofs.Math.Option.{Option, none, some}
use Rattle.lists.specs.Tabulate.{tab, concat, first}
use Rattle.lists.specs.Checks.{◌unless◌, checked, within}
use Rattle.members.specs.Members.{is_threshold, size, set_of}
use Rattle.shares.specs.Layout.{is_length, is_day, width, capacity}
use Rattle.text.specs.Lines.{parts, line_of}

-- a P line that was taken: the member, counted from 0, and the words of its share
pub record Share : Type 0 where
  pub member : ℕ
  pub words : List ℕ

-- the share that was taken for member i
unfoldable pub share_of : List Share → ℕ → Option Share
share_of taken i = first (λ s. eqb s.member i) taken

unfoldable pub is_some : Option Share → Bool
is_some none = false
is_some (some s) = true

unfoldable pub words_or : List ℕ → Option Share → List ℕ
words_or zeros none = zeros
words_or zeros (some s) = s.words

-- what P lines come to: the shares taken, or a refusal's number
pub data Taken : Type 0 where
  shares : List Share → Taken
  refused : ℕ → Taken

-- a line of the right shape: 24 where the member is not one of 1 to n or was met before
unfoldable pub take_share : ℕ → List Share → ℕ → List ℕ → Taken
take_share t taken number words =
    checked refused
    (24 unless within 1 (size t) number ∷ 24 unless not (is_some (share_of taken (number - 1))) ∷ [])
    (shares (record { member = number - 1; words = words } ∷ taken))

-- a line's numbers: 23 where it is not the letter P, the member and the words of a share, all numerals
unfoldable pub take_numbers : ℕ → List Share → Option (List ℕ) → Taken
take_numbers t taken none = refused 23
take_numbers t taken (some ns) = take_share t taken (get_or ns 0 0) (drop 1 ns)

unfoldable pub take_line : ℕ → ℕ → List Share → List ℕ → Taken
take_line t d taken line = take_numbers t taken (line_of 80 (1 + width t d) line)

-- the lines one after the other; what follows the last byte 10 is no line if it is empty, and else one of the wrong shape
unfoldable pub take_lines : ℕ → ℕ → List Share → List (List ℕ) → Taken
take_lines t d taken [] = shares taken
take_lines t d taken (end ∷ []) = elim end [ [] ↦ shares taken | b ∷ bs ↦ refused 23 ]
take_lines t d taken (line ∷ next ∷ more) =
    elim (take_line t d taken line) [ shares now ↦ take_lines t d now (next ∷ more) | refused k ↦ refused k ]

-- what the reader answers: 0 or the refusal's number, t, d, the quorum, the day, the present mask, and the buffer at exit
pub record HandIn : Type 0 where
  pub number : ℕ
  pub t : ℕ
  pub d : ℕ
  pub quorum : ℕ
  pub day : ℕ
  pub present : ℕ
  pub words : List ℕ

-- a refusal fills the buffer, which has len words, with 0, and every number is 0
unfoldable pub unread : ℕ → ℕ → HandIn
unread len k = record { number = k; t = 0; d = 0; quorum = 0; day = 0; present = 0; words = replicate len 0 }

-- the shares in member order, zeros for absent members and after the last share
unfoldable pub placed : ℕ → ℕ → List Share → List ℕ
placed t d taken =
    concat (tab (size t) (λ i. words_or (replicate (width t d) 0) (share_of taken i)))
    ++ replicate (capacity - size t * width t d) 0

unfoldable pub read_from : ℕ → ℕ → ℕ → ℕ → ℕ → Taken → HandIn
read_from len t d quorum day (refused k) = unread len k
read_from len t d quorum day (shares taken) =
    let members : ℕ = set_of (size t) (λ i. is_some (share_of taken i)) in
    record { number = 0; t = t; d = d; quorum = quorum; day = day; present = members; words = placed t d taken }

-- the first line's four numbers, and the lines after it: 22 where it is no D line, or t, d or the day is out of range
unfoldable pub read_numbers : ℕ → Option (List ℕ) → List (List ℕ) → HandIn
read_numbers len none lines = unread len 22
read_numbers len (some ns) lines =
    let t : ℕ = get_or ns 0 0 in
    let d : ℕ = get_or ns 1 0 in
    let day : ℕ = get_or ns 3 0 in
    let answer : HandIn = read_from len t d (get_or ns 2 0) day (take_lines t d [] lines) in
    checked (unread len) (22 unless is_threshold t ∷ 22 unless is_length d ∷ 22 unless is_day day ∷ []) answer

-- a first line that no byte 10 ends is no D line
unfoldable pub read_lines : ℕ → List (List ℕ) → HandIn
read_lines len [] = unread len 22
read_lines len (end ∷ []) = unread len 22
read_lines len (line ∷ next ∷ more) = read_numbers len (line_of 68 4 line) (next ∷ more)

-- the buffer has len words, and must have room for the largest station
unfoldable pub read : List ℕ → ℕ → HandIn
read text len =
    let answer : HandIn = read_lines len (parts 10 text) in
    checked (unread len) (25 unless eqb len capacity ∷ 21 unless leb (length text) 40000 ∷ []) answer
