-- The second half of opening, way by way, from any votes: 14, 15, and then what the words of the survivors come to.
-- Assumes nothing.
use mathlib.Core.Path.{◌≡◌, sym, ap, ◌∙◌, subst}
use mathlib.Core.Logic.{inl, inr}
use mathlib.Core.Bool.{true}
use mathlib.Core.List.{List}
use Prim.Native.Nat.{ℕ, ◌≤◌, ◌<◌, ◌^◌}
use native.Mathlib.Omega.{arith}
use lib.ListN.{length, get_or}
use borrow.Author.Tests.{lt-leb, lt-ltb}
use Rattle.lists.specs.Tabulate.{each}
use Rattle.lists.proofs.Blocks.{every_tab, every_each}
use Rattle.lists.proofs.Bools.{test}
use Rattle.lists.proofs.Tabulate.{length-tab}
use Rattle.members.specs.Members.{is_threshold, size, own_points, has, set_of, is_set, card}
use Rattle.members.proofs.Masks.{set_of-lt}
use Rattle.members.proofs.Words.{card_32}
use Rattle.shares.specs.Layout.{share_word}
use Rattle.shares.specs.declared.Shape.{Shape}
use Rattle.shares.specs.declared.Shares.{Shares}
use Rattle.shares.proofs.Shapes.{station}
use Rattle.voting.specs.Votes.{usable, accepts, vote_rows}
use Rattle.voting.proofs.Meaning.{usable-lt, usable_words, row_is}
use Rattle.voting.proofs.Rows.{empty_row}
use Rattle.std.specs.Prelude.{Result, Ok, Err}
use Rattle.std.specs.Result.{result_unwrap_or}
use Rattle.refusals.specs.declared.Refusal.{Refusal}
use Rattle.pruning.specs.Answer.{answer_of}
use Rattle.pruning.specs.Pruning.{Pruned, survivors, prune}
use Rattle.pruning.proofs.Answers.{accepts as accepted}
use Rattle.pruning.proofs.Largest.{survivors_largest, survivors_size, survivor_voted}
use Rattle.reconstruction.specs.Reconstruction.{Opened, unopened, required, finish}
use Rattle.reconstruction.specs.Internal.Steps.{Voted, Decodable, by_words, by_votes}
use Rattle.reconstruction.proofs.Opening.{finish_opens, finish_none}

-- pruning takes the rows, and answers their survivors
module _ (t : ℕ) (rows : List ℕ) (h : is_threshold t ≡ true) (long : length rows ≡ size t) (sets : each (is_set (size t)) rows ≡ true) where
  pub surviving_lem : (r : Result ℕ Refusal) → answer_of r ≡ prune t rows → result_unwrap_or r 0 ≡ survivors t rows
  surviving_lem (Ok set) a = ap (λ (p : Pruned). p.survivors) (a ∙ accepted t rows h long sets)
  surviving_lem (Err why) a = ap (λ (p : Pruned). p.survivors) (a ∙ accepted t rows h long sets)

-- the votes of shares: nobody accepts a member that is not usable
pub votes_voted : (shares : Shares) (day able present : ℕ) → able ≡ usable shares.shape.t shares.shape.d present shares.words.now
    → (rows : List ℕ) → rows ≡ vote_rows shares.shape.t shares.shape.d day able shares.words.now → Voted shares.shape able rows shares.words.now
unfolding vote_rows
votes_voted shares day able present ea rows er =
    let words : List ℕ = shares.words.now in
    let (t, d) : ℕ × ℕ = (shares.shape.t, shares.shape.d) in
    let row : ℕ → ℕ = λ i. set_of (size t) (λ j. accepts t d day able words j i) in
    record {
      below = subst (λ (m : ℕ). m < 2 ^ size t) (sym ea) (usable-lt t d present words);
      long = ap length er ∙ length-tab (size t) row;
      sets =
          ap (each (is_set (size t))) er
          ∙ every_each (is_set (size t))
          (every_tab (size t) row (λ i l. lt-ltb (row i) (2 ^ size t) (set_of-lt (size t) (λ j. accepts t d day able words j i))));
      field = λ i l some k m.
          elim (test (has able i)) [
            | inl e ↦
                usable_words t d present words i l (subst (λ (a : ℕ). has a i ≡ true) ea e) k
                (omega (arith, (station shares.shape).share, (station shares.shape).parts))
            | inr e ↦ absurd (some (ap (λ (r : List ℕ). get_or r i 0) er ∙ row_is t d day able words i l ∙ empty_row t d day able words i e))
          ];
    }

module _ (shares : Shares) (able : ℕ) (rows : List ℕ) (voted : Voted shares.shape able rows shares.words.now) where
  abbrev s : Shape
  s = shares.shape

  abbrev words : List ℕ
  words = shares.words.now

  abbrev t : ℕ
  t = s.t

  module _ (v : ℕ) (ev : v ≡ survivors t rows) where
    pub decodable : (v ≡ 0 → ⊥) → Decodable t s.d words v
    decodable some_left =
        subst (Decodable t s.d words) (sym ev)
        (record {
          below = (survivors_largest t rows).below;
          enough = elim (survivors_size t rows) [ inl z ↦ absurd (some_left (ev ∙ z)) | inr h ↦ h ];
          field = λ i l h k m. voted.field i l (survivor_voted t rows i l h) k m;
        })

  -- the code's counts of usable members and of those that the quorum asks for
  module _ (quorum c q : ℕ) (ec : c ≡ card 32 able) (eq : q ≡ required t quorum) where
    abbrev finished : Opened
    finished = by_votes s quorum able rows words

    counted : c ≡ card (size t) able
    counted = ec ∙ card_32 t able s.t_high voted.below

    pub finish_14 : c < q → (answer : Opened) (len : ℕ) → len ≡ s.d → answer ≡ unopened len 0 14 → answer ≡ finished
    unfolding finish
    finish_14 few answer len el e =
        e ∙ ap (λ (m : ℕ). unopened m 0 14) el ∙ sym (rw (lt-leb (required t quorum) (card (size t) able) (omega (arith, counted, eq))))

    module _ (enough : q ≤ c) (v : ℕ) (ev : v ≡ survivors t rows) where
      met : required t quorum ≤ card (size t) able
      met = omega (arith, counted, eq)

      pub finish_15 : v ≡ 0 → (answer : Opened) (len : ℕ) → len ≡ s.d → answer ≡ unopened len 0 15 → answer ≡ finished
      finish_15 z answer len el e =
          e
          ∙ ap (λ (m : ℕ). unopened m 0 15) el
          ∙ sym (finish_none (own_points t) t s.d quorum able rows (share_word t s.d words) met (sym ev ∙ z))

      pub finish_words : (v ≡ 0 → ⊥) → (answer : Opened) → answer ≡ by_words s words v → answer ≡ finished
      finish_words some_left answer e =
          e
          ∙ ap (by_words s words) ev
          ∙ sym (finish_opens (own_points t) t s.d quorum able rows (share_word t s.d words) met (λ z. some_left (ev ∙ z)))
