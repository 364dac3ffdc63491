-- The writer's checks in their order, as the code makes them; and the text, where it fits.
-- Assumes nothing.
use mathlib.Core.Path.{◌≡◌, sym, ap, ap₂, ◌∙◌}
use mathlib.Core.List.{List, ◌++◌}
use Prim.Native.Nat.{ℕ, ◌+◌, ◌≤◌, ◌<◌}
use native.Mathlib.Omega.{arith}
use borrow.Author.Tests.{le-leb, lt-leb}
use lib.ListN.{length, drop, length-append}
use Rattle.std.specs.Prelude.{Ok, Err}
use Rattle.shares.specs.Internal.FirstChecks.{SharesPassed, SharesRefused}
use Rattle.shares.specs.declared.Shape.{Shape}
use Rattle.shares.specs.declared.Shares.{Shares}
use Rattle.shares.proofs.FirstChecks.{shares_refused}
use Rattle.text.specs.Internal.Writing.{Written}
use Rattle.text.proofs.Writing.{written_then, written_as, written_front, written_count}
use Rattle.handin.specs.Writer.{HandInText, first_line, share_lines, text_of, unwritten, written, checks, write}
use Rattle.handin.specs.Internal.Fitted.{fitted}
use Rattle.handin.specs.Answer.{written_of}
use Rattle.refusals.specs.Refusals.{number}
use Rattle.refusals.specs.declared.Refusal.{Refusal}
use Rattle.refusals.specs.declared.Refusal.TheVariants.{TextBufferTooShort}

-- ---- the last check, and the text

module _ (s : Shape) (quorum day present : ℕ) (words : List ℕ) where
  abbrev line_d : List ℕ
  line_d = first_line s.t s.d quorum day

  abbrev lines_p : List ℕ
  lines_p = share_lines s.t s.d present words s.n

  pieces : line_d ++ lines_p ≡ text_of s.t s.d quorum day present words
  unfolding text_of
  pieces = ap (λ (n : ℕ). line_d ++ share_lines s.t s.d present words n) s.members

  pub text_length : (a b : ℕ) → a ≡ length line_d → b ≡ length lines_p → a + b ≡ length (text_of s.t s.d quorum day present words)
  text_length a b ea eb = omega (arith, ea, eb, ap length pieces, length-append line_d lines_p)

  module _ (count : ℕ) (e : count ≡ length (text_of s.t s.d quorum day present words)) where
    -- the text has no room
    pub too_long : (buffer : List ℕ) → length buffer < count → written_of (Err TextBufferTooShort) buffer ≡ fitted (text_of s.t s.d quorum day present words) buffer
    unfolding written_of fitted unwritten
    too_long buffer h = rw (← e, lt-leb count (length buffer) h)

    -- its lines have room, the D line and then the P lines
    module _ {before start : List ℕ} {first : ℕ} (fits : count ≤ length before) (front : first ≡ 0) (same : start ≡ before) where
      pub first_fits : first + length line_d ≤ length start
      first_fits = omega (arith, e, ap length pieces, length-append line_d lines_p, ap length same)

      pub shares_fit : {middle : List ℕ} {at : ℕ} → Written start first line_d middle at → at + length lines_p ≤ length middle
      shares_fit w = omega (arith, e, w.next, w.long, ap length pieces, length-append line_d lines_p, ap length same)

  -- it is written whole
  pub both_written : {before start middle after : List ℕ} {first at end : ℕ} → first ≡ 0 → start ≡ before
      → Written start first line_d middle at → Written middle at lines_p after end
      → (r : ℕ) → r ≡ end → written_of (Ok r) after ≡ fitted (text_of s.t s.d quorum day present words) before
  unfolding written_of fitted written
  both_written {before = before} {after = after} {end = end} front same p q r told =
      let text : List ℕ = text_of s.t s.d quorum day present words in
      let w : Written before 0 text after end = rw (front, same) at (written_as pieces (written_then p q)) in
      let count : end ≡ length text = written_count w in
      rw (told, le-leb (length text) (length before) (omega (arith, count, w.fits)))
      (ap₂ (λ (k : ℕ) (l : List ℕ). let a : HandInText = record { number = 0; count = k; buffer = l } in a) count
      (written_front w ∙ ap (λ (k : ℕ). text ++ drop k before) count))

-- ---- the checks before it

module _ (t d quorum day present : ℕ) (words buffer : List ℕ) where
  -- one of the checks of shares fails
  pub wrote_refused : (k : Refusal) → SharesRefused t d day present words (number k) → written_of (Err k) buffer ≡ write t d quorum day present words buffer
  unfolding written_of write unwritten
  wrote_refused k r =
      let text : List ℕ = text_of t d quorum day present words in
      sym (shares_refused (unwritten buffer) (drop 5 (checks t d day present words text buffer)) (written text buffer) r)

  -- they all pass
  pub goes_on : (s : Shares) → (s.shape.t ≡ t) × (s.shape.d ≡ d) × (s.words.now ≡ words) × SharesPassed t d day present words
      → (answer : HandInText) → answer ≡ fitted (text_of s.shape.t s.shape.d quorum day present s.words.now) buffer
      → answer ≡ write t d quorum day present words buffer
  unfolding write fitted
  goes_on s (t_is, d_is, words_are, p) answer e =
      e ∙ rw (t_is, d_is, words_are, p.passed.threshold, p.passed.in_length, p.passed.is_a_day, p.in_full, p.proper)

-- for the checks as the code makes them
pub ruleset by_check = (wrote_refused, goes_on)
