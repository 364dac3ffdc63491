-- The lines of what a text opens to are what is printed for the text.
-- Assumes nothing.
use Rattle.std.proofs.Common.{◌≡◌, refl, sym, ap, ◌∙◌, ℕ, ◌*◌, eqb, true, false, List, [], ◌∷◌, ◌++◌, length, take, Result, Ok, Err, arith}
use Rattle.std.specs.Result.{MatchResult}
use Rattle.std.proofs.lemmas.List.{take-append-le, take_all}
use Rattle.lists.specs.Ascii.{ascii}
use Rattle.refusals.specs.declared.Refusal.{Refusal}
use Rattle.refusals.specs.Refusals.{number}
use Rattle.shares.specs.Layout.{capacity}
use Rattle.shares.specs.declared.Shape.{Shape}
use Rattle.shares.specs.Internal.Shape.{InRange}
use Rattle.reconstruction.specs.Reconstruction.{Answered, reconstruct}
use Rattle.reconstruction.specs.Answer.{answer_of, answered_of}
use Rattle.reconstruction.specs.declared.Opened.{Opened}
use Rattle.reconstruction.specs.declared.Reconstructed.{Reconstructed}
use Rattle.reconstruction.specs.declared.Unopened.{Unopened}
use Rattle.handin.specs.Reader.{read}
use Rattle.handin.specs.Answer.{answer_of as read_of}
use Rattle.handin.specs.declared.HandIn.{HandIn}
use Rattle.text.specs.Lines.{line}
use Rattle.report.specs.Report.{print_opened, print_read, report}
use Rattle.report.specs.Internal.Printing.{word_lines, answer_lines}
use Rattle.refusals.proofs.Numbers.{numbered}
use Rattle.handin.proofs.Sound.{sound}

-- a refusal's line is printed, whatever would be otherwise
refused : (k : Refusal) (opened : List ℕ) (survivors : ℕ) → let told : List ℕ = line (ascii "REFUSED") (number k ∷ survivors ∷ []) in
    told ≡ elim (eqb (number k) 0) [ true ↦ opened | false ↦ told ]
refused k opened survivors = rw (numbered k) refl

-- what is handed on as the reader's answer is that answer
was_read : (r : Result HandIn Refusal) (h : HandIn) → MatchResult r (λ x. ◌≡◌ {A = Result HandIn Unopened} (Ok h) (Ok x)) (λ _. ⊥) → r ≡ Ok h
was_read (Ok x) h e = cc
was_read (Err k) h impossible = absurd impossible

module _ (text words : List ℕ) (len : ℕ) (full : len ≡ capacity) where
  -- the reader's refusal
  pub unread_lines : (r : Result HandIn Refusal) (why : Unopened) (secret : List ℕ)
      → MatchResult r (λ h. ◌≡◌ {A = Result HandIn Unopened} (Err why) (Ok h)) (λ k. why ≡ record { refusal = k; survivors = 0 })
      → read_of r words ≡ read text len → answer_lines (Err why) secret ≡ report text
  unfolding answer_lines report print_read read_of
  unread_lines (Ok h) why secret impossible answers = absurd cc
  unread_lines (Err k) why secret e answers = rw e (refused k _ 0 ∙ ap print_read (answers ∙ ap (read text) full))

  module _ (r : Result HandIn Refusal) (h : HandIn) (handed : MatchResult r (λ x. ◌≡◌ {A = Result HandIn Unopened} (Ok h) (Ok x)) (λ _. ⊥))
      (answers : read_of r words ≡ read text len) where
    pub accepted_range : InRange h.t h.d
    unfolding read_of
    accepted_range = (rw (← answers, was_read r h handed) at (sound len text)).ranged refl

    module _ (s : Shape) (same_t : s.t ≡ h.t) (same_d : s.d ≡ h.d) (room secret : List ℕ) (long : length room ≡ h.d) (o : Reconstructed)
        (opens : answered_of o secret ≡ reconstruct h.t (length room) h.day h.present h.quorum (take (s.n * s.width) words)) where
      printed : (a : Result Opened Unopened) → o.outcome ≡ a → print_opened h.d (answer_of a secret) ≡ report text
      unfolding report print_read read_of
      printed a e =
          ap (λ (a : Result Opened Unopened). print_opened h.d (answer_of a secret)) (sym e)
          ∙ ap (λ (a : Answered). print_opened h.d a.opened) (rw (long, s.members, s.share, same_t, same_d) at opens)
          ∙ ap print_read (rw (was_read r h handed) at answers ∙ ap (read text) full)

      -- the secret, at the front of a longer buffer
      pub opened_lines : (sets : Opened) (rest : List ℕ) → o.outcome ≡ Ok sets → length secret ≡ length room
          → answer_lines (Ok (record { opened = sets; shape = s })) (secret ++ rest) ≡ report text
      unfolding answer_lines word_lines print_opened
      opened_lines sets rest e all =
          let front : take s.d (secret ++ rest) ≡ secret = take-append-le s.d secret rest (omega arith) ∙ take_all s.d secret (omega arith) in
          let d : length secret ≡ h.d = all ∙ long in
          rw (front, d) (printed (Ok sets) e)

      pub unopened_lines : (why : Unopened) (rest : List ℕ) → o.outcome ≡ Err why → answer_lines (Err why) rest ≡ report text
      unfolding answer_lines print_opened
      unopened_lines why rest e = refused why.refusal _ why.survivors ∙ printed (Err why) e
