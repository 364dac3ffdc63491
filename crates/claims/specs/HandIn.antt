-- What the writer and the reader of hand-in text are to each other (document 02, W-201 and W-205). Proved in proofs/HandIn.antt.
use Rattle.std.specs.Prelude.{ℕ, ◌-◌, ◌*◌, ◌≤◌, ◌<◌, ◌≡◌, cond, List, [], ◌∷◌, ◌++◌, length, get_or, take, replicate}
use Rattle.lists.specs.Tabulate.{tab, concat}
use Rattle.members.specs.Members.{size, has}
use Rattle.shares.specs.Layout.{width, capacity, share}
use Rattle.shares.specs.Sample.{sample}
use Rattle.handin.specs.Examples.{handed_in, writes}
use Rattle.handin.specs.Reader.{HandIn, unread, read}
use Rattle.handin.specs.Writer.{write}

-- every word has 16 bits
abbrev pub Words16 : List ℕ → Type 0
Words16 words = (k : ℕ) → get_or words k 0 < 65536

-- the shares with absent members' words made 0
unfoldable pub of_present : ℕ → ℕ → ℕ → List ℕ → List ℕ
of_present t d present words = concat (tab (size t) (λ i. cond (has present i) (share t d words i) (replicate (width t d) 0)))

-- Whenever writing accepts, reading the text back gives what was written, with absent members' words made 0.
unfoldable pub ReadsBack : Type 0
ReadsBack =
    (t d quorum day present : ℕ) (words before after : List ℕ) (count : ℕ)
    → quorum < 65536
    → Words16 words
    → write t d quorum day present words before ≡ record { number = 0; count = count; buffer = after }
    → read (take count after) capacity
    ≡ record {
      number = 0;
      t = t;
      d = d;
      quorum = quorum;
      day = day;
      present = present;
      words = of_present t d present words ++ replicate (capacity - size t * width t d) 0;
    }

-- The text has at most 29368 bytes.
unfoldable pub AtMost : Type 0
AtMost =
    (t d quorum day present : ℕ) (words before after : List ℕ) (count : ℕ)
    → quorum < 65536
    → Words16 words
    → write t d quorum day present words before ≡ record { number = 0; count = count; buffer = after }
    → count ≤ 29368

-- So a buffer of as many is never too short.
unfoldable pub AlwaysFits : Type 0
AlwaysFits =
    (t d quorum day present : ℕ) (words buffer : List ℕ)
    → quorum < 65536
    → Words16 words
    → 29368 ≤ length buffer
    → ¬ ((write t d quorum day present words buffer).number ≡ 31)

-- what is read back of a text for t = 1, d = 1 and day 1 that was written into 120 bytes
abbrev pub back : ℕ → ℕ → List ℕ → HandIn
back quorum present words = read (take (writes quorum present words 120).count (writes quorum present words 120).buffer) capacity

pub record HandInInstances : Type 0 where
  -- the sample without member 2, whose words are lost
  pub absent_written : (writes 0 5 (sample 300) 120).number ≡ 0
  pub absent_back :
      back 0 5 (sample 300)
      ≡ handed_in 0 5 (253 ∷ 255 ∷ 1015 ∷ 2281 ∷ 1 ∷ 1 ∷ 1 ∷ 2 ∷ 1 ∷ 3 ∷ replicate 10 0 ++ 300 ∷ 263 ∷ 1041 ∷ 2337 ∷ 3 ∷ 1 ∷ 3 ∷ 2 ∷ 3 ∷ 3 ∷ [])
  -- a word or a quorum of more than 16 bits is written, and refused when it is read
  pub word_65536_written : (writes 0 1 (65536 ∷ replicate 29 0) 120).number ≡ 0
  pub word_65536_back : back 0 1 (65536 ∷ replicate 29 0) ≡ unread capacity 23
  pub quorum_65536_written : (writes 65536 1 (replicate 30 0) 120).number ≡ 0
  pub quorum_65536_back : back 65536 1 (replicate 30 0) ≡ unread capacity 22
  -- 29367 bytes can be too few
  pub one_less : (write 15 64 65535 65520 2147483647 (replicate 4867 65535) (replicate 29367 0)).number ≡ 31
