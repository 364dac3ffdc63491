-- The P lines of a text one after the other, as the code has come to them.
-- Assumes nothing.
use Rattle.std.proofs.Common.{◌≡◌, refl, sym, ap, ◌∙◌, subst, ℕ, ◌*◌, ◌≤◌, ◌<◌, List, [], ◌∷◌, length, replicate, arith}
use Rattle.std.proofs.Math.Nat.{not-suc-le-zero}
use Rattle.std.proofs.Math.ListN.{drop_of_length-le}
use Rattle.std.specs.Prelude.{Result, Ok, Err}
use Rattle.members.specs.Members.{size}
use Rattle.shares.specs.Layout.{width, capacity}
use Rattle.shares.specs.declared.Shape.{Shape}
use Rattle.shares.proofs.Shapes.{station}
use Rattle.text.specs.Lines.{parts}
use Rattle.text.proofs.Parts.{parts_some}
use Rattle.refusals.specs.declared.Refusal.{Refusal}
use Rattle.refusals.specs.declared.Refusal.TheVariants.{BadLine}
use Rattle.handin.specs.Reader.{Share, Taken, shares, refused, take_line, take_lines}
use Rattle.handin.specs.Internal.Progress.{Holds, Comes}
use Rattle.handin.proofs.Placing.{holds_none}

-- each line is taken by itself, after those before it: where it is accepted the next lines follow, where it is refused they do not count
module _ (t d : ℕ) (taken : List Share) (line rest : List ℕ) where
  pub lines_next : (now : List Share) → take_line t d taken line ≡ shares now → take_lines t d taken (line ∷ parts 10 rest) ≡ take_lines t d now (parts 10 rest)
  unfolding take_lines
  lines_next now e = let p = parts_some 10 rest in rw (p.2, take_lines, e)

  pub lines_refused : {r : Taken} (k : ℕ) → take_line t d taken line ≡ refused k → r ≡ take_lines t d taken (line ∷ parts 10 rest) → r ≡ refused k
  unfolding take_lines
  lines_refused k e h = let p = parts_some 10 rest in h ∙ rw (p.2, take_lines, e)

-- the text's end, and bytes that no byte 10 ends
pub lines_end : (t d : ℕ) (taken : List Share) → take_lines t d taken (parts 10 []) ≡ shares taken
unfolding take_lines parts
lines_end t d taken = refl

lines_unended : (t d : ℕ) (taken : List Share) (rest : List ℕ) → 0 < length rest → take_lines t d taken (rest ∷ []) ≡ refused 23
unfolding take_lines
lines_unended t d taken [] h = absurd (not-suc-le-zero h)
lines_unended t d taken (b ∷ bs) h = refl

-- all lines come to what the lines left do, after the shares taken
pub record Reached (t d : ℕ) (all : Taken) (rest : List ℕ) (present : ℕ) (words : List ℕ) : Type 0 where
  pub taken : List Share
  pub so : all ≡ take_lines t d taken (parts 10 rest)
  pub holds : Holds t d taken present words

pub reached_start : (s : Shape) (text words : List ℕ) → length words ≡ capacity → words ≡ replicate (length words) 0
    → Reached s.t s.d (take_lines s.t s.d [] (parts 10 text)) text 0 words
reached_start s text words len zeros =
    let all_fit : size s.t * width s.t s.d ≤ length words =
    rw (← s.members, ← s.share) (omega (arith, (station s).all_fit, len)) in
    record {
      taken = [];
      so = refl;
      holds = subst (Holds s.t s.d [] 0) (sym zeros) (holds_none s.t s.d (length words) len all_fit);
    }

module _ {t d : ℕ} {all : Taken} {rest : List ℕ} {present : ℕ} {words : List ℕ} (s : Reached t d all rest present words) where
  pub reached_end : length rest ≡ 0 → Comes t d all (Ok present) words
  unfolding Comes
  reached_end e =
      let none_left : rest ≡ [] = drop_of_length-le rest {i = 0} (omega arith) in
      (s.taken, s.so ∙ ap (λ (l : List ℕ). take_lines t d s.taken (parts 10 l)) none_left ∙ lines_end t d s.taken, s.holds)

  pub reached_unended : 0 < length rest → parts 10 rest ≡ rest ∷ [] → (later : List ℕ) → Comes t d all (Err BadLine) later
  unfolding Comes
  reached_unended h q later = s.so ∙ rw q (lines_unended t d s.taken rest h)

  -- a line, and what it comes to
  module _ (line left later : List ℕ) (splits : parts 10 rest ≡ line ∷ parts 10 left) (r : Result ℕ Refusal)
      (comes : (taken : List Share) → Holds t d taken present words → Comes t d (take_line t d taken line) r later) where
    so_far : all ≡ take_lines t d s.taken (line ∷ parts 10 left)
    so_far = s.so ∙ ap (take_lines t d s.taken) splits

    came : {o : Result ℕ Refusal} → r ≡ o → Comes t d (take_line t d s.taken line) o later
    came q = subst (λ (x : Result ℕ Refusal). Comes t d (take_line t d s.taken line) x later) q (comes s.taken s.holds)

    pub reached_refused : (k : Refusal) → r ≡ Err k → Comes t d all (Err k) later
    unfolding Comes
    reached_refused k q = lines_refused t d s.taken line left _ (came q) so_far

    pub reached_next : (m : ℕ) → r ≡ Ok m → Reached t d all left m later
    unfolding Comes
    reached_next m q =
        let c : Comes t d (take_line t d s.taken line) (Ok m) later = came q in
        record { taken = c.0; so = so_far ∙ lines_next t d s.taken line left c.0 c.1; holds = c.2 }
