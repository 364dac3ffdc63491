-- The three counts of votes in opening's answer, whatever is handed in.
-- Assumes nothing.
use mathlib.Core.Path.{◌≡◌, refl, sym, ap₂, ◌∙◌}
use mathlib.Core.Bool.{Bool, true, false, not}
use mathlib.Core.Option.{Option, none, some}
use mathlib.Core.List.{List, [], ◌∷◌}
use Prim.Native.Nat.{ℕ, zero, suc, ◌+◌}
use lib.Dec.{leb, eqb}
use Rattle.lists.specs.Checks.{◌unless◌}
use Rattle.lists.specs.Tabulate.{tab, count, keep, concat}
use Rattle.lists.proofs.Bools.{clash, or_left, or_yes}
use Rattle.lists.proofs.Checks.{checked_holds}
use Rattle.lists.proofs.Every.{more, none as every_none}
use Rattle.lists.proofs.Grids.{passed, passed_more}
use Rattle.members.specs.Members.{size, own_points, set_of, card}
use Rattle.members.proofs.Masks.{card-set_of}
use Rattle.shares.specs.Layout.{share_word}
use Rattle.voting.specs.Votes.{usable, accepted, vote, is_of, accepts, vote_rows, vote_table, count_of, kinds, pairs}
use Rattle.voting.proofs.Totals.{pairs_total, pairs-unread}
use Rattle.pruning.specs.Pruning.{survivors}
use Rattle.decoding.specs.Decoding.{find}
use Rattle.reconstruction.specs.Reconstruction.{Opened, unopened, required, opened_from, finish, turned_away, checks, reconstruct}
use Rattle.claims.specs.Pairs.{one_of, before_votes, after_votes, ones, TrueCounts, CountsOf, PairCounts}

-- how many elements of a table pass a test is how many ones its rows have, where each row's set holds those that pass
ones-passed : {A : Type 0} (p : A → Bool) (n m : ℕ) (f : ℕ → ℕ → A) (row : ℕ → ℕ) → ((i : ℕ) → card n (row i) ≡ count n (λ j. p (f i j)))
    → passed p n m f ≡ ones n (tab m row)
unfolding tab concat keep ones
ones-passed p n zero f row h = refl
ones-passed p n (suc m) f row h = passed_more p n m f ∙ ap₂ ◌+◌ (sym (h 0)) (ones-passed p n m (λ i. f (suc i)) (λ i. row (suc i)) (λ i. h (suc i)))

true_counts : (t d day able : ℕ) (words : List ℕ) → TrueCounts t d day able words (pairs t d day able words)
unfolding pairs kinds count_of vote_table vote_rows accepts
true_counts t d day able words =
    record {
      of_the_votes = refl;
      add_up = pairs_total t d day able words;
      unread_are = pairs-unread t d day able words;
      accepted_are =
          ones-passed (is_of accepted) (size t) (size t) (λ i j. vote t d day able words j i) (λ i. set_of (size t) (λ j. accepts t d day able words j i))
          (λ i. card-set_of (size t) (λ j. accepts t d day able words j i));
    }

-- the answer's number is one of those after the votes, and none of those before
pub record Late (a : Opened) : Type 0 where
  pub is : one_of after_votes a.number ≡ true
  pub is_not : one_of before_votes a.number ≡ false

from_late : (xs : List ℕ) (t d : ℕ) (y : ℕ → ℕ → ℕ) (s : ℕ) (o : Option (List (List ℕ))) → Late (opened_from xs t d y s o)
unfolding opened_from unopened one_of
from_late xs t d y s none = record { is = refl; is_not = refl }
from_late xs t d y s (some fs) = record { is = refl; is_not = refl }

finish_late : (xs : List ℕ) (t d quorum able : ℕ) (rows : List ℕ) (y : ℕ → ℕ → ℕ) → Late (finish xs t d quorum able rows y)
unfolding finish unopened one_of
finish_late xs t d quorum able rows y =
    let s : ℕ = survivors t rows in
    checked_holds (unopened d 0) Late (14 unless leb (required t quorum) (card (size t) able) ∷ 15 unless not (eqb s 0) ∷ [])
    (more (record { is = refl; is_not = refl }) (more (record { is = refl; is_not = refl }) every_none))
    (opened_from xs t d y s (find xs t d y s)) (from_late xs t d y s (find xs t d y s))

module _ (t d day present quorum : ℕ) (words : List ℕ) where
  abbrev able : ℕ
  able = usable t d present words

  abbrev opened : Opened
  opened = finish (own_points t) t d quorum able (vote_rows t d day able words) (share_word t d words)

  -- a refusal before the votes
  early : (k : ℕ) → one_of before_votes k ≡ true → one_of after_votes k ≡ false → CountsOf t d day present words (turned_away d k)
  unfolding turned_away unopened
  early k is is_not =
      record {
        known = or_left (one_of before_votes k) (one_of after_votes k) is;
        none_before = λ e. refl;
        true_after = λ e. absurd (clash e is_not);
      }

  after : CountsOf t d day present words (record { opened = opened; pairs = pairs t d day able words })
  after =
      let late : Late opened = finish_late (own_points t) t d quorum able (vote_rows t d day able words) (share_word t d words) in
      record {
        known = or_yes (one_of before_votes opened.number) (one_of after_votes opened.number) late.is;
        none_before = λ e. absurd (clash e late.is_not);
        true_after = λ e. true_counts t d day able words;
      }

pub pair_counts : PairCounts
unfolding PairCounts reconstruct one_of
pair_counts t d day present quorum words =
    checked_holds (turned_away d) (CountsOf t d day present words) (checks t d day present quorum words)
    (more (refused 1 refl refl) (more (refused 2 refl refl) (more (refused 32 refl refl)
    (more (refused 11 refl refl) (more (refused 12 refl refl) (more (refused 13 refl refl) every_none))))))
    (record { opened = opened t d day present quorum words; pairs = pairs t d day (able t d day present quorum words) words })
    (after t d day present quorum words)
  where
    refused : (k : ℕ) → one_of before_votes k ≡ true → one_of after_votes k ≡ false → CountsOf t d day present words (turned_away d k)
    refused = early t d day present quorum words
