-- The first 40001 bytes of what is given are enough to know its report.
-- Assumes nothing.
use Rattle.std.proofs.Common.{◌≡◌, refl, sym, ap, ◌∙◌, ℕ, ◌≤◌, ◌<◌, Bool, true, false, leb, List, subst, length, take, arith, length-take, take_all, leb-true, leb-false}
use Rattle.std.specs.Prelude.{⊤, Option, Some, None, IfSome, Result, Ok, Err}
use Rattle.std.specs.Io.KnownBytes.{Appends}
use Rattle.shares.specs.Layout.{capacity}
use Rattle.handin.specs.Reader.{unread}
use Rattle.handin.proofs.Reading.{read_21}
use Rattle.report.specs.Report.{print_read, report}
use Rattle.opening.specs.declared.Failure.{Failure}
use Rattle.opening.specs.Input.{Answers}

same : (xs ys : List ℕ) → 40000 < length xs → 40000 < length ys → report xs ≡ report ys
unfolding report
same xs ys h k = ap print_read (sym (read_21 xs capacity refl (unread capacity 21) h refl) ∙ read_21 ys capacity refl (unread capacity 21) k refl)

by_length : (given : List ℕ) (room : ℕ) → 40001 ≤ room → (b : Bool) → leb (length given) 40000 ≡ b → report (take room given) ≡ report given
by_length given room h true e = ap report (take_all room given (omega (arith, h, leb-true _ _ e)))
by_length given room h false e =
    let long : 40000 < length given = leb-false _ _ e in
    same _ _ (omega (arith, h, long, length-take room given)) long

pub enough : (given : List ℕ) (room : ℕ) → 40001 ≤ room → report (take room given) ≡ report given
enough given room h = by_length given room h _ refl

-- the report of the front of what the reader gives is written, of at most room bytes
abbrev pub AnswersFront : Result Unit Failure → Option (List ℕ) → ℕ → Option (List ℕ) → Option (List ℕ) → Type 0
AnswersFront (Ok u) known room before after = IfSome known (λ given. Appends before after (report (take room given)))
AnswersFront (Err failure) known room before after = ⊤

pub answers_all : (r : Result Unit Failure) (known : Option (List ℕ)) (room : ℕ) (before after : Option (List ℕ)) → 40001 ≤ room
    → AnswersFront r known room before after → Answers r known before after
answers_all (Ok u) None room before after h front = tt
answers_all (Ok u) (Some given) room before after h front = subst (Appends before after) (enough given room h) front
answers_all (Err failure) known room before after h front = tt
