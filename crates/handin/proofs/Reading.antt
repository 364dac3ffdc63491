-- Laws of the whole text: its lengths, its first line, and the lines after it.
-- Assumes nothing.
use Rattle.std.proofs.Common.{◌≡◌, sym, ap, ◌∙◌, ℕ, ◌≤◌, ◌<◌, true, false, List, [], ◌∷◌, length, get_or, replicate}
use Rattle.std.proofs.Math.Option.{none, some}
use Rattle.std.specs.Prelude.{Result, Ok, Err}
use Rattle.std.specs.Result.{is_err}
use mathlib.Core.Bool.{true≢false, false≢true}
use borrow.Author.Tests.{le-leb, lt-leb, eq-eqb, ne_eqb}
use Rattle.shares.specs.Layout.{capacity}
use Rattle.shares.specs.Internal.FirstChecks.{Passed, Refused}
use Rattle.shares.proofs.FirstChecks.{refused_first}
use Rattle.shares.specs.declared.Shape.{Shape}
use Rattle.text.specs.Lines.{parts, line_of}
use Rattle.text.proofs.Parts.{parts_some}
use Rattle.refusals.specs.declared.Refusal.{Refusal}
use Rattle.refusals.specs.declared.Refusal.TheVariants.{BadFirstLine}
use Rattle.refusals.specs.Refusals.{number}
use Rattle.handin.specs.Reader.{HandIn, take_lines, unread, read_from, read_numbers, read_lines, read}
use Rattle.handin.specs.Answer.{answer_of}
use Rattle.handin.specs.Internal.Progress.{Comes, cleared}
use Rattle.handin.specs.declared.HandIn as given

-- a refusal's answer: the buffer is filled with 0, or will be
pub refused_so : (k : Refusal) (ws : List ℕ) (len : ℕ) → length ws ≡ len → answer_of (Err k) (cleared (Err k) ws) ≡ unread len (number k)
unfolding answer_of cleared unread
refused_so k ws len e = rw e

-- the numbers of a D line
module _ (len : ℕ) (ns ws : List ℕ) (lines : List (List ℕ)) (e : length ws ≡ len) where
  abbrev t : ℕ
  t = get_or ns 0 0

  abbrev d : ℕ
  d = get_or ns 1 0

  abbrev day : ℕ
  day = get_or ns 3 0

  -- t, d or the day is out of range
  pub first_refused : {k : ℕ} → Refused t d day k → answer_of (Err BadFirstLine) (cleared (Err BadFirstLine) ws) ≡ read_numbers len (some ns) lines
  unfolding read_numbers
  first_refused r =
      refused_so BadFirstLine ws len e
      ∙ sym (refused_first (λ k. unread len 22) [] (read_from len t d (get_or ns 2 0) day (take_lines t d [] lines)) r)

  -- they are in range: what the lines come to is the answer
  module _ (s : Shape) (passed : (s.t ≡ t) × (s.d ≡ d) × Passed t d day) where
    p : Passed t d day
    p = passed.2

    came : (r : Result ℕ Refusal) → Comes s.t s.d (take_lines s.t s.d [] lines) r ws → Comes t d (take_lines t d [] lines) r ws
    came r h = rw (passed.0, passed.1) at h

    pub lines_refused : (k : Refusal) → Comes s.t s.d (take_lines s.t s.d [] lines) (Err k) ws → answer_of (Err k) (cleared (Err k) ws) ≡ read_numbers len (some ns) lines
    unfolding read_numbers read_from Comes
    lines_refused k h = rw (p.threshold, p.in_length, p.is_a_day, came (Err k) h) (refused_so k ws len e)

    pub lines_taken : (present : ℕ) → Comes s.t s.d (take_lines s.t s.d [] lines) (Ok present) ws
        → (r : given.HandIn) → r ≡ record { t = t; d = d; quorum = get_or ns 2 0; day = day; present = present }
        → answer_of (Ok r) (cleared (Ok r) ws) ≡ read_numbers len (some ns) lines
    unfolding read_numbers read_from Comes answer_of cleared
    lines_taken present h r same_r =
        let c : Comes t d (take_lines t d [] lines) (Ok present) ws = came (Ok present) h in
        rw (same_r, p.threshold, p.in_length, p.is_a_day, c.1, ← c.2.members, ← c.2.stored)

-- the first line, and what follows it
module _ (len : ℕ) (text : List ℕ) where
  pub text_unended : (ws : List ℕ) → length ws ≡ len → parts 10 text ≡ text ∷ [] → answer_of (Err BadFirstLine) (cleared (Err BadFirstLine) ws) ≡ read_lines len (parts 10 text)
  unfolding read_lines
  text_unended ws w q = rw q (refused_so BadFirstLine ws len w)

  module _ (line left : List ℕ) (splits : parts 10 text ≡ line ∷ parts 10 left) where
    lines_are : read_lines len (parts 10 text) ≡ read_numbers len (line_of 68 4 line) (parts 10 left)
    unfolding read_lines
    lines_are =
        let p : (x : List ℕ) × (xs : List (List ℕ)) × (parts 10 left ≡ x ∷ xs) = parts_some 10 left in
        rw (splits, p.2)

    pub text_bad : (ws : List ℕ) → length ws ≡ len → line_of 68 4 line ≡ none → answer_of (Err BadFirstLine) (cleared (Err BadFirstLine) ws) ≡ read_lines len (parts 10 text)
    unfolding read_numbers
    text_bad ws w q = refused_so BadFirstLine ws len w ∙ sym (lines_are ∙ rw q)

    pub text_good : (ns : List ℕ) (a : HandIn) → line_of 68 4 line ≡ some ns
        → a ≡ read_numbers len (some ns) (parts 10 left) → a ≡ read_lines len (parts 10 text)
    text_good ns a q h = h ∙ sym (lines_are ∙ ap (λ o. read_numbers len o (parts 10 left)) q)

-- the lengths of the buffer and of the text
module _ (text : List ℕ) (len : ℕ) where
  pub read_25 : (a : HandIn) → (len ≡ capacity → ⊥) → a ≡ unread len 25 → a ≡ read text len
  unfolding read
  read_25 a h e = e ∙ rw (ne_eqb len capacity h)

  module _ (h : len ≡ capacity) where
    pub read_21 : (a : HandIn) → 40000 < length text → a ≡ unread len 21 → a ≡ read text len
    unfolding read
    read_21 a l e = e ∙ rw (eq-eqb len capacity h, lt-leb (length text) 40000 l)

    pub read_whole : (a : HandIn) → length text ≤ 40000 → a ≡ read_lines len (parts 10 text) → a ≡ read text len
    unfolding read
    read_whole a l e = e ∙ rw (eq-eqb len capacity h, le-leb (length text) 40000 l)

-- the buffer at exit: zeros after a refusal
pub cleared-err : (r : Result given.HandIn Refusal) (ws zeros : List ℕ) (a : HandIn) → is_err r ≡ true → zeros ≡ replicate (length ws) 0
    → answer_of r (cleared r ws) ≡ a → answer_of r zeros ≡ a
unfolding cleared
cleared-err (Ok g) ws zeros a e z h = absurd (false≢true e)
cleared-err (Err k) ws zeros a e z h = rw z h

pub cleared-ok : (r : Result given.HandIn Refusal) (ws : List ℕ) (a : HandIn) → is_err r ≡ false → answer_of r (cleared r ws) ≡ a → answer_of r ws ≡ a
unfolding cleared
cleared-ok (Ok g) ws a e h = h
cleared-ok (Err k) ws a e h = absurd (true≢false e)

-- for the numbers of a D line as the code takes them
pub ruleset by_numbers = (first_refused, lines_refused, lines_taken)
