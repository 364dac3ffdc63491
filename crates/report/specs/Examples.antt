-- What the program prints for document 01's examples, and for each refusal that a text can lead to. Proved in proofs/Examples.antt.
use Rattle.std.specs.Prelude.{ℕ, ◌≡◌, List, ◌++◌, replicate}
use Prim.Native.String.{String}
use Rattle.lists.specs.Ascii.{ascii}
use Rattle.handin.specs.Sample.{line_d, line1, line2, line3, sample_text, keyless_text}
use Rattle.report.specs.Report.{report}

abbrev pub prints : List ℕ → String → Type 0
prints text output = report text ≡ ascii output

-- the sample text's first line with quorum 2
abbrev line_d2 : List ℕ
line_d2 = ascii "D\t1\t1\t2\t1\n"

-- C9: the sample text
abbrev pub C9Printed : Type 0
C9Printed = prints sample_text "OPEN\t3\t3\nWORD\t1\t250\n"

-- C10: no polynomial, survivors 7
abbrev pub C10Printed : Type 0
C10Printed = prints keyless_text "REFUSED\t16\t7\n"

pub record Examples : Type 0 where
  pub c9_printed : C9Printed
  pub c10_printed : C10Printed
  -- d = 2: a line for each word
  pub two_words :
      prints (ascii "D\t1\t2\t2\t1\nP\t1\t5\t65520\t0\t0\t0\t0\t0\t0\t0\t0\t0\nP\t3\t5\t65520\t0\t0\t0\t0\t0\t0\t0\t0\t0\n")
      "OPEN\t5\t5\nWORD\t1\t5\nWORD\t2\t65520\n"
  pub refused_13 : prints (ascii "D\t1\t1\t1\t1\n") "REFUSED\t13\t0\n"
  pub refused_14 : prints line_d "REFUSED\t14\t0\n"
  -- C12: without a spare the quorum has to be named
  pub no_spare : prints (line_d ++ line1 ++ line2) "REFUSED\t14\t0\n"
  pub no_spare_named : prints (line_d2 ++ line1 ++ line2) "OPEN\t3\t3\nWORD\t1\t250\n"
  pub refused_15 : prints (line_d2 ++ line1 ++ ascii "P\t2\t256\t0\t1028\t2309\t2\t1\t2\t2\t2\t3\n") "REFUSED\t15\t0\n"
  -- the sample's shares, of day 1, opened for day 2; and a first line without a day
  pub another_day : prints (ascii "D\t1\t1\t0\t2\n" ++ line1 ++ line2 ++ line3) "REFUSED\t15\t0\n"
  pub no_day : prints (ascii "D\t1\t1\t0\n" ++ line1 ++ line2 ++ line3) "REFUSED\t22\t0\n"
  pub refused_21 : prints (replicate 40001 0) "REFUSED\t21\t0\n"
  pub refused_22 : prints (ascii "") "REFUSED\t22\t0\n"
  pub refused_23 : prints (line_d ++ ascii "\n") "REFUSED\t23\t0\n"
  pub refused_24 : prints (line_d ++ line1 ++ line2 ++ line1) "REFUSED\t24\t0\n"
