-- Document 02's example of the table, and its corners. Proved in proofs/Examples.antt.
use Rattle.std.specs.Prelude.{◌≡◌, length, take, drop}
use Rattle.lists.specs.Ascii.{ascii}
use Rattle.weights.specs.WeightTable.{weight_line, member_lines, table}

pub record Examples : Type 0 where
  pub first_line_holds : weight_line 3 0 ≡ ascii "3\t1\t32761\n"
  pub of_three : member_lines 3 ≡ ascii "3\t1\t32761\n3\t2\t65520\n3\t3\t32761\n"
  pub long : length table ≡ 2858
  -- the first line of n = 5 follows the last of n = 3
  pub from_three_to_five : take 20 (drop 20 table) ≡ ascii "3\t3\t32761\n5\t1\t62791\n"
  pub last_line : drop 2846 table ≡ ascii "31\t31\t13049\n"
