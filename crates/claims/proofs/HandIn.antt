-- What is written is read back and has at most 29368 bytes, which are reached; the other instances by computing.
-- Assumes nothing.
use Prim.Native.Nat.{ℕ, suc, ◌+◌, ◌*◌, ◌^◌, ◌<◌}
use native.Mathlib.Omega.{arith}
use native.Mathlib.Nat.{le_trans}
use mathlib.Core.Path.{◌≡◌, refl, sym, ap, ap₂, ◌∙◌}
use mathlib.Core.Bool.{Bool, true, false, cond, false≢true}
use mathlib.Core.List.{List, [], ◌∷◌, ◌++◌}
use borrow.Author.Tests.{ltb-true, le-leb}
use lib.Dec.{leb, eqb}
use lib.ListN.{length, get_or, take, drop, replicate, length-replicate, get_or-replicate}
use lib.Seq.{take-append_seam}
use Rattle.lists.specs.Ascii.{ascii}
use Rattle.lists.specs.Checks.{◌unless◌, checked}
use Rattle.lists.specs.Tabulate.{tab, all, each, first, concat}
use Rattle.lists.proofs.Checks.{all_pass, all-passed}
use Rattle.lists.proofs.Every.{none, more}
use Rattle.lists.proofs.Tabulate.{tab_ext, all_elim}
use Rattle.members.specs.Members.{is_threshold, size, bit, has, set_of, is_set}
use Rattle.shares.specs.Layout.{is_length, is_day, width, capacity, word, share}
use Rattle.shares.specs.Internal.Shape.{InRange}
use Rattle.shares.specs.Sample.{sample}
use Rattle.shares.proofs.Shapes.{in_range}
use Rattle.shares.proofs.Tests.{day_below}
use Rattle.text.specs.Lines.{digits, field, line, before, parts, decimal, leads_with_zero, is_numeral, numerals, is_letter, numbers_of, line_of}
use Rattle.handin.specs.Reader.{share_of, is_some, words_or, take_share, take_numbers, take_line, take_lines, unread, placed, read_from, read_numbers, read_lines, read}
use Rattle.handin.specs.Writer.{HandInText, first_line, share_line, share_lines, text_of, unwritten, written, checks, write}
use Rattle.handin.proofs.ReadBack.{read_back}
use Rattle.handin.proofs.TextLength.{text_short}
use Rattle.claims.specs.HandIn.{of_present, ReadsBack, AtMost, AlwaysFits, HandInInstances}

module _ (t d quorum day present : ℕ) (words buffer : List ℕ) where
  abbrev text : List ℕ
  text = text_of t d quorum day present words

  -- what is known where writing accepts
  record Accepted : Type 0 where
    range : InRange t d
    dated : is_day day ≡ true
    inside : present < 2 ^ size t
    so : write t d quorum day present words buffer ≡ written text buffer

  accepted : (write t d quorum day present words buffer).number ≡ 0 → Accepted
  unfolding write unwritten each
  accepted z =
      elim (all_pass (unwritten buffer) (λ a. a.number) (λ k. refl) (checks t d day present words text buffer) refl (written text buffer) z) [
        | more p1 (more p2 (more p32 (more p11 (more p12 (more p31 none))))) ↦
            record {
              range = in_range t d p1 p2;
              dated = p32;
              inside = ltb-true present (2 ^ size t) p12;
              so = all-passed (unwritten buffer) (λ a. a.number) (λ k. refl) (checks t d day present words text buffer) refl (written text buffer) z;
            }
      ]

  -- the bytes that were written
  written_text : (count : ℕ) (after : List ℕ) → written text buffer ≡ record { number = 0; count = count; buffer = after } → take count after ≡ text
  unfolding written
  written_text count after e =
      ap₂ (λ (k : ℕ) (l : List ℕ). take k l) (sym (ap (λ (a : HandInText). a.count) e)) (sym (ap (λ (a : HandInText). a.buffer) e))
      ∙ take-append_seam text (drop (length text) buffer)

  -- six checks of which the last passes where the first three do
  not_31 : (a b y c e f : Bool) → (a ≡ true → b ≡ true → y ≡ true → f ≡ true)
      → (checked (unwritten buffer) (1 unless a ∷ 2 unless b ∷ 32 unless y ∷ 11 unless c ∷ 12 unless e ∷ 31 unless f ∷ []) (written text buffer)).number ≡ 31 → ⊥
  unfolding unwritten written
  not_31 false b y c e f fits h = omega (arith, h)
  not_31 true false y c e f fits h = omega (arith, h)
  not_31 true true false c e f fits h = omega (arith, h)
  not_31 true true true false e f fits h = omega (arith, h)
  not_31 true true true true false f fits h = omega (arith, h)
  not_31 true true true true true false fits h = false≢true (fits refl refl refl)
  not_31 true true true true true true fits h = omega (arith, h)

pub reads_back : ReadsBack
unfolding ReadsBack of_present
reads_back t d quorum day present words before after count low small e =
    let ok : Accepted t d quorum day present words before = accepted t d quorum day present words before (ap (λ (a : HandInText). a.number) e) in
    ap (λ (l : List ℕ). read l capacity) (written_text t d quorum day present words before count after (sym ok.so ∙ e))
    ∙ read_back t d ok.range words small present quorum low day ok.dated ok.inside

pub at_most : AtMost
unfolding AtMost written
at_most t d quorum day present words before after count low small e =
    let ok : Accepted t d quorum day present words before = accepted t d quorum day present words before (ap (λ (a : HandInText). a.number) e) in
    omega (arith, ap (λ (a : HandInText). a.count) (sym ok.so ∙ e), text_short t d ok.range words small present quorum low day (omega (arith, day_below day ok.dated)))

pub always_fits : AlwaysFits
unfolding AlwaysFits write
always_fits t d quorum day present words buffer low small room =
    not_31 t d quorum day present words buffer (is_threshold t) (is_length d) (is_day day) (eqb (length words) (size t * width t d)) (is_set (size t) present)
    (leb (length (text_of t d quorum day present words)) (length buffer))
    (λ p q y.
    le-leb (length (text_of t d quorum day present words)) (length buffer)
    (le_trans (text_short t d (in_range t d p q) words small present quorum low day (omega (arith, day_below day y))) room))

-- ---- the longest text: t = 15, d = 64, all present, the quorum and every word 65535, the day 65520

abbrev longest_line : ℕ → List ℕ
longest_line i = line (ascii "P") (suc i ∷ tab 157 (λ k. 65535))

abbrev longest_text : List ℕ
longest_text = first_line 15 64 65535 65520 ++ concat (tab 31 longest_line)

longest_length : length longest_text ≡ 29368
unfolding line concat field digits ascii tab
longest_length = refl

all_present : all 31 (has 2147483647) ≡ true
unfolding all has bit
all_present = refl

module _ (words : List ℕ) (full : (k : ℕ) → k < 4867 → get_or words k 0 ≡ 65535) where
  longest_share : (i : ℕ) → i < 31 → share 15 64 words i ≡ tab 157 (λ k. 65535)
  unfolding size width word
  longest_share i h = tab_ext 157 (word 15 64 words i) (λ k. 65535) (λ k l. full (i * 157 + k) (omega (arith, h, l)))

  longest_line_lem : (i : ℕ) → i < 31 → cond (has 2147483647 i) (share_line 15 64 words i) [] ≡ longest_line i
  unfolding share_line
  longest_line_lem i h = rw (all_elim 31 (has 2147483647) all_present i h) (ap (λ (l : List ℕ). line (ascii "P") (suc i ∷ l)) (longest_share i h))

  longest_text_lem : text_of 15 64 65535 65520 2147483647 words ≡ longest_text
  unfolding text_of share_lines size
  longest_text_lem =
      ap (λ (ls : List (List ℕ)). first_line 15 64 65535 65520 ++ concat ls)
      (tab_ext 31 (λ i. cond (has 2147483647 i) (share_line 15 64 words i) []) longest_line longest_line_lem)

  -- a buffer of one byte less is too short for it
  too_short : (buffer : List ℕ) → length words ≡ 4867 → length buffer ≡ 29367 → (write 15 64 65535 65520 2147483647 words buffer).number ≡ 31
  unfolding write unwritten size width
  too_short buffer long room =
      let whole : length (text_of 15 64 65535 65520 2147483647 words) ≡ 29368 = ap length longest_text_lem ∙ longest_length in
      rw (long, whole, room)

pub hand_in_instances : HandInInstances
unfolding
    digits field line before parts decimal leads_with_zero is_numeral numerals is_letter numbers_of line_of share_of is_some words_or take_share take_numbers take_line
    take_lines unread placed read_from read_numbers read_lines read share_line share_lines text_of unwritten written write
    ascii tab each first concat size bit has set_of width word sample
hand_in_instances =
    record {
      absent_written = refl;
      absent_back = refl;
      word_65536_written = refl;
      word_65536_back = refl;
      quorum_65536_written = refl;
      quorum_65536_back = refl;
      one_less =
          let words : List ℕ = replicate 4867 65535 in
          let buffer : List ℕ = replicate 29367 0 in
          too_short words (λ k h. get_or-replicate 4867 k 65535 0 h) buffer (length-replicate {A = ℕ} 4867 65535) (length-replicate {A = ℕ} 29367 0);
    }
