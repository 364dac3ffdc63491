-- Document 01's sample text, for day 1, and the same dealt with all keys 0.
-- Assumes nothing.
use Rattle.std.specs.Prelude.{ℕ, List, ◌++◌}
use Rattle.lists.specs.Ascii.{ascii}

-- its first line, and the lines of members 1, 2 and 3
unfoldable pub line_d : List ℕ
line_d = ascii "D\t1\t1\t0\t1\n"

unfoldable pub line1 : List ℕ
line1 = ascii "P\t1\t253\t255\t1015\t2281\t1\t1\t1\t2\t1\t3\n"

unfoldable pub line2 : List ℕ
line2 = ascii "P\t2\t256\t259\t1028\t2309\t2\t1\t2\t2\t2\t3\n"

unfoldable pub line3 : List ℕ
line3 = ascii "P\t3\t300\t263\t1041\t2337\t3\t1\t3\t2\t3\t3\n"

unfoldable pub sample_text : List ℕ
sample_text = line_d ++ line1 ++ line2 ++ line3

unfoldable pub keyless_text : List ℕ
keyless_text =
    line_d
    ++ ascii "P\t1\t253\t0\t0\t0\t0\t0\t0\t0\t0\t0\n"
    ++ ascii "P\t2\t256\t0\t0\t0\t0\t0\t0\t0\t0\t0\n"
    ++ ascii "P\t3\t300\t0\t0\t0\t0\t0\t0\t0\t0\t0\n"
