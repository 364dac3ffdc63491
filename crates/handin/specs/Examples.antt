-- Document 01's sample text, for day 1, as the reader takes it and as the writer gives it, and corners; those of numerals and of a line's shape alone
-- are in `text`. Proved in proofs/Examples.antt.
use Rattle.std.specs.Prelude.{ℕ, ◌≡◌, List, [], ◌∷◌, ◌++◌, replicate}
use Prim.Native.String.{String}
use Rattle.lists.specs.Ascii.{ascii}
use Rattle.shares.specs.Layout.{capacity}
use Rattle.shares.specs.Sample.{sample, keyless}
use Rattle.handin.specs.Reader.{HandIn, unread, read}
use Rattle.handin.specs.Sample.{line_d, line1, line2, line3, sample_text, keyless_text}
use Rattle.handin.specs.Writer.{HandInText, unwritten, written, write}

-- a text for t = 1, d = 1 and day 1 was read: the quorum, the present mask, the 30 words of its three shares
abbrev pub handed_in : ℕ → ℕ → List ℕ → HandIn
handed_in quorum present words =
    record { number = 0; t = 1; d = 1; quorum = quorum; day = 1; present = present; words = words ++ replicate 4837 0 }

-- C9 and C10: what the program reads
abbrev pub C9Read : Type 0
C9Read = read sample_text capacity ≡ handed_in 0 7 (sample 300)

abbrev pub C10Read : Type 0
C10Read = read keyless_text capacity ≡ handed_in 0 7 (keyless 300)

abbrev pub refuses : ℕ → List ℕ → Type 0
refuses k text = read text capacity ≡ unread capacity k

-- a text that begins with the sample's first line
abbrev pub after : String → List ℕ
after lines = line_d ++ ascii lines

-- a text for t = 1, d = 1 and day 1, written into a buffer of `room` bytes 7
abbrev pub writes : ℕ → ℕ → List ℕ → ℕ → HandInText
writes quorum present words room = write 1 1 quorum 1 present words (replicate room 7)

-- such a text, where it is written, and the number where it is not
abbrev pub wrote : List ℕ → ℕ → HandInText
wrote text room = written text (replicate room 7)

abbrev pub turned_away : ℕ → ℕ → HandInText
turned_away k room = unwritten (replicate room 7) k

pub record Examples : Type 0 where
  pub c9_read : C9Read
  pub c10_read : C10Read
  -- no P line; P lines in another order, with member 2 absent
  pub nobody : read line_d capacity ≡ handed_in 0 0 (replicate 30 0)
  pub three_then_one :
      read (line_d ++ line3 ++ line1) capacity
      ≡ handed_in 0 5 (253 ∷ 255 ∷ 1015 ∷ 2281 ∷ 1 ∷ 1 ∷ 1 ∷ 2 ∷ 1 ∷ 3 ∷ replicate 10 0 ++ 300 ∷ 263 ∷ 1041 ∷ 2337 ∷ 3 ∷ 1 ∷ 3 ∷ 2 ∷ 3 ∷ 3 ∷ [])
  -- numerals up to 65535 are read, also as quorum; 0 is a numeral
  pub word_65535 :
      read (after "P\t1\t65535\t65521\t0\t0\t0\t0\t0\t0\t0\t0\n") capacity ≡ handed_in 0 1 (65535 ∷ 65521 ∷ replicate 28 0)
  pub quorum_65535 : read (ascii "D\t1\t1\t65535\t1\n") capacity ≡ handed_in 65535 0 (replicate 30 0)
  -- the last day, which the reader gives
  pub day_65520 :
      read (ascii "D\t1\t1\t0\t65520\n") capacity
      ≡ record { number = 0; t = 1; d = 1; quorum = 0; day = 65520; present = 0; words = replicate 4867 0 }
  -- 25 before 21, 21 before 22, and no more than 40000 bytes
  pub buffer_before_text : read (replicate 40001 0) 4866 ≡ unread 4866 25
  pub text_before_line : refuses 21 (replicate 40001 0)
  pub text_40000 : refuses 22 (replicate 40000 0)
  -- first lines that are no D line: 22, also before a bad second line
  pub empty : refuses 22 []
  pub unended : refuses 22 (ascii "D\t1\t1\t0\t1")
  pub blank : refuses 22 (ascii "\n")
  pub line_before_next : refuses 22 (ascii "D\t1\t1\t0\nx\n")
  pub t_0 : refuses 22 (ascii "D\t0\t1\t0\t1\n")
  pub t_16 : refuses 22 (ascii "D\t16\t1\t0\t1\n")
  pub d_0 : refuses 22 (ascii "D\t1\t0\t0\t1\n")
  pub d_65 : refuses 22 (ascii "D\t1\t65\t0\t1\n")
  -- the day is missing, not 1 to 65520, no numeral, not the last field: 22
  pub no_day :
      read (ascii "D\t1\t1\t0\n") capacity
      ≡ record { number = 22; t = 0; d = 0; quorum = 0; day = 0; present = 0; words = replicate 4867 0 }
  pub day_0 : refuses 22 (ascii "D\t1\t1\t0\t0\n")
  pub day_65521 : refuses 22 (ascii "D\t1\t1\t0\t65521\n")
  pub day_65535 : refuses 22 (ascii "D\t1\t1\t0\t65535\n")
  pub day_65537 : refuses 22 (ascii "D\t1\t1\t0\t65537\n")
  pub day_01 : refuses 22 (ascii "D\t1\t1\t0\t01\n")
  pub day_then_more : refuses 22 (ascii "D\t1\t1\t0\t1\t1\n")
  -- lines that are no P line: 23
  pub short : refuses 23 (after "P\t1\t0\t0\t0\t0\t0\t0\t0\t0\t0\n")
  pub long : refuses 23 (after "P\t1\t0\t0\t0\t0\t0\t0\t0\t0\t0\t0\t0\n")
  pub second_D : refuses 23 (line_d ++ line_d)
  pub blank_at_end : refuses 23 (sample_text ++ 10 ∷ [])
  pub unended_at_end : refuses 23 (sample_text ++ ascii "P\t1\t0\t0\t0\t0\t0\t0\t0\t0\t0\t0")
  pub member_65536 : refuses 23 (after "P\t65536\t0\t0\t0\t0\t0\t0\t0\t0\t0\t0\n")
  pub last_word_65536 : refuses 23 (after "P\t1\t0\t0\t0\t0\t0\t0\t0\t0\t0\t65536\n")
  -- members that are not 1 to n, or met before: 24
  pub member_0 : refuses 24 (after "P\t0\t0\t0\t0\t0\t0\t0\t0\t0\t0\t0\n")
  pub member_4 : refuses 24 (after "P\t4\t0\t0\t0\t0\t0\t0\t0\t0\t0\t0\n")
  pub member_65535 : refuses 24 (after "P\t65535\t0\t0\t0\t0\t0\t0\t0\t0\t0\t0\n")
  pub member_again : refuses 24 (sample_text ++ line2)
  -- on one line 23 goes before 24; over lines the earlier line's number
  pub short_member_0 : refuses 23 (after "P\t0\t0\t0\t0\t0\t0\t0\t0\t0\t0\n")
  pub bad_word_member_again : refuses 23 (line_d ++ line1 ++ ascii "P\t1\t0\t0\t0\t0\t0\t0\t0\t0\t0\t00\n")
  pub again_then_junk : refuses 24 (line_d ++ line1 ++ line1 ++ ascii "x\n")
  pub junk_then_again : refuses 23 (line_d ++ line1 ++ ascii "x\n" ++ line1)
  -- the sample's text is what the writer writes; the bytes past it stay
  pub sample_written : writes 0 7 (sample 300) 120 ≡ record { number = 0; count = 112; buffer = sample_text ++ replicate 8 7 }
  pub two_written : writes 0 5 (sample 300) 120 ≡ wrote (line_d ++ line1 ++ line3) 120
  pub nobody_written : writes 0 0 (sample 300) 10 ≡ wrote line_d 10
  pub two_words : write 1 2 0 1 0 (replicate 33 0) (replicate 10 7) ≡ wrote (ascii "D\t1\t2\t0\t1\n") 10
  -- any quorum is written, and any word; an absent member's words are not looked at
  pub any_quorum : writes 65535 0 (replicate 30 65535) 20 ≡ wrote (ascii "D\t1\t1\t65535\t1\n") 20
  pub any_word :
      writes 1 2 (replicate 10 65535 ++ 65521 ∷ 65535 ∷ 10 ∷ replicate 17 0) 60
      ≡ wrote (ascii "D\t1\t1\t1\t1\nP\t2\t65521\t65535\t10\t0\t0\t0\t0\t0\t0\t0\n") 60
  -- just long enough, and one byte short
  pub just_fits : writes 0 7 (sample 300) 112 ≡ record { number = 0; count = 112; buffer = sample_text }
  pub one_short : writes 0 7 (sample 300) 111 ≡ turned_away 31 111
  pub no_room : writes 0 7 (sample 300) 0 ≡ turned_away 31 0
  -- both ends of the days
  pub write_day_0 : write 1 1 0 0 0 (replicate 30 0) (replicate 9 7) ≡ turned_away 32 9
  pub write_day_65520 : write 1 1 0 65520 0 (replicate 30 0) (replicate 20 7) ≡ wrote (ascii "D\t1\t1\t0\t65520\n") 20
  pub write_day_65521 : write 1 1 0 65521 0 (replicate 30 0) (replicate 20 7) ≡ turned_away 32 20
  pub write_day_65535 : write 1 1 0 65535 0 (replicate 30 0) (replicate 20 7) ≡ turned_away 32 20
  -- both ends of t and d, a word too few and too many, a member beyond n
  pub write_t_0 : write 0 1 0 1 0 [] (replicate 9 7) ≡ turned_away 1 9
  pub write_t_16 : write 16 1 0 1 0 (replicate 3300 0) (replicate 9 7) ≡ turned_away 1 9
  pub write_d_0 : write 1 0 0 1 0 (replicate 27 0) (replicate 9 7) ≡ turned_away 2 9
  pub write_d_65 : write 1 65 0 1 0 (replicate 222 0) (replicate 9 7) ≡ turned_away 2 9
  pub words_29 : writes 0 0 (replicate 29 0) 9 ≡ turned_away 11 9
  pub words_31 : writes 0 0 (replicate 31 0) 9 ≡ turned_away 11 9
  pub beyond_n : writes 0 8 (sample 300) 120 ≡ turned_away 12 120
  -- each check before the next
  pub write_1_before_2 : write 0 0 0 1 0 [] (replicate 9 7) ≡ turned_away 1 9
  pub write_2_before_32 : write 1 0 0 0 0 [] (replicate 9 7) ≡ turned_away 2 9
  pub write_32_before_11 : write 1 1 0 0 0 [] (replicate 9 7) ≡ turned_away 32 9
  pub write_2_before_11 : write 1 65 0 1 0 [] (replicate 9 7) ≡ turned_away 2 9
  pub write_11_before_12 : writes 0 8 [] 9 ≡ turned_away 11 9
  pub write_12_before_31 : writes 0 8 (sample 300) 0 ≡ turned_away 12 0
