-- The quick look: the table's rule, and both ways of the theorem.
-- Assumes nothing.
use mathlib.Core.Path.{◌≡◌, refl, sym, ap, ◌∙◌, subst}
use mathlib.Core.Bool.{true}
use mathlib.Core.Option.{Option, none, some}
use mathlib.Core.List.{List, [], ◌∷◌}
use Prim.Native.Nat.{ℕ, zero, suc, ◌≤◌, ◌<◌, zero-le, suc-le-suc}
use native.Mathlib.Nat.{lt_irrefl, le_refl, le_of_eq, le_trans}
use native.Mathlib.Omega.{arith}
use lib.Dec.{lit≤}
use borrow.Author.Tests.{ltb-true}
use Rattle.lists.specs.Tabulate.{tab, all, count, keep, first, choose}
use Rattle.lists.proofs.Bools.{clash}
use Rattle.lists.proofs.Checks.{within_low, within_high}
use Rattle.lists.proofs.Tabulate.{length-tab, get_or-tab, all_elim, all_intro}
use Rattle.field.specs.Field.{prime, is_field_word, difference, product, power, inverse}
use Rattle.polynomial.specs.Polynomial.{eval, value, linear, slopes, interpolate}
use Rattle.polynomial.proofs.Evaluation.{value-word}
use Rattle.members.specs.Members.{is_threshold, size, own_points, bit, has, set_of, card, members_of, first_of}
use Rattle.members.proofs.Masks.{has-set_of, has-zero}
use Rattle.members.proofs.Points.{length_own, own_point}
use Rattle.members.proofs.Words.{first_of-lt, has-first_of, card-first_of, size_pos, size_32}
use Rattle.parity.specs.Examples.{words_of, squares}
use Rattle.parity.specs.Internal.Looking.{constant}
use Rattle.parity.specs.Parity.{IsWeight, balanced, Lies}
use Rattle.parity.proofs.Balance.{lies_balanced, balanced_lies}
use Rattle.parity.proofs.Examples as Parity
use Rattle.parity.proofs.Table.{at_place, is_weight, only_weight}
use Rattle.parity.proofs.Zero.{constant_is}
use Rattle.decoding.specs.Decoding.{surplus, need, agreeing, nth, through, find}
use Rattle.decoding.proofs.Points.{own_distinct}
use Rattle.decoding.proofs.Search.{find-found}
use Rattle.decoding.proofs.Unique.{agrees, agrees_word}
use Rattle.reconstruction.specs.Internal.Steps.{Begun}
use Rattle.reconstruction.specs.Reconstruction.{Opened, unopened, opened_from}
use Rattle.reconstruction.proofs.AllWords.{Going, going_begun, going_last}
use Rattle.reconstruction.proofs.Quick.{lies_met}
use Rattle.claims.specs.QuickLook.{TableRule, QuickLook, AllAgree, LookInstances}

module _ (t : ℕ) (h : is_threshold t ≡ true) where
  low : 1 ≤ t
  low = within_low 1 15 t h

  high : t ≤ 15
  high = within_high 1 15 t h

pub table_rule : TableRule
table_rule =
    record {
      many = (Parity.examples).many;
      stands = λ t i h l. at_place t i (low t h) (high t h) l;
      each = λ t i h l. subst (IsWeight (size t) i) (sym (at_place t i (low t h) (high t h) l)) (is_weight t i (low t h) (high t h) l);
      only = λ t i w h l r. only_weight t i w (low t h) (high t h) l r ∙ sym (at_place t i (low t h) (high t h) l);
    }

pub quick_look : QuickLook
unfolding QuickLook
quick_look t y h words =
    (lies_balanced t (low t h) (high t h) y, balanced_lies t (low t h) (high t h) y (λ i l. ltb-true (y i) prime (words i l)))

-- where all n members survive
module _ (t d : ℕ) (y : ℕ → ℕ → ℕ) (h : is_threshold t ≡ true) where
  abbrev xs : List ℕ
  xs = own_points t

  abbrev s : ℕ
  s = first_of (size t)

  few : size t ≤ 32
  few = size_32 t (high t h)

  enough : suc t ≤ card (size t) s
  unfolding size
  enough = le_trans (omega arith) (le_of_eq (sym (card-first_of (size t) few)))

  -- every word passes, so every word has its polynomial, and nobody is lost
  every_passes : ((i k : ℕ) → i < size t → k < d → is_field_word (y i k) ≡ true) → all d (λ k. balanced t (λ i. y i k)) ≡ true
      → (opened_from xs t d y s (find xs t d y s)).agreeing ≡ s
  every_passes words pass =
      sym (ap (λ (a : Opened). a.agreeing) (going_last xs (own_distinct t (high t h)) t (length_own t) d y s s secret d (le_refl d) going))
    where
      secret : List ℕ
      secret = tab d (λ k. constant (size t) (λ i. y i k))

      lies : (k : ℕ) → k < d → Lies t (λ i. y i k)
      lies k l =
          balanced_lies t (low t h) (high t h) (λ i. y i k) (λ i m. ltb-true (y i k) prime (words i k m l))
          (all_elim d (λ k. balanced t (λ i. y i k)) pass k l)

      begun : Begun xs t d y s d secret
      begun =
          record {
            inside = le_refl d;
            each = λ k l.
                lies_met t y s k _ (lies k l)
                (get_or-tab d (λ k. constant (size t) (λ i. y i k)) k 0 l ∙ constant_is t (low t h) (high t h) (λ i. y i k) (lies k l));
          }

      going : Going xs t d y s s secret d
      going =
          going_begun xs (own_distinct t (high t h)) t (length_own t) d y s secret d (first_of-lt (size t) few)
          enough (length-tab d (λ k. constant (size t) (λ i. y i k))) begun

  -- all agree, so each word lies on what was found for it
  all_on : (o : Option (List (List ℕ))) → find xs t d y s ≡ o → (opened_from xs t d y s o).agreeing ≡ s → all d (λ k. balanced t (λ i. y i k)) ≡ true
  unfolding opened_from unopened agreeing
  all_on none e a = absurd (clash (has-first_of (size t) 0 few (size_pos t)) (ap (λ (m : ℕ). has m 0) (sym a) ∙ has-zero 0))
  all_on (some fs) e a =
      all_intro d (λ k. balanced t (λ i. y i k))
      (λ k l. lies_balanced t (low t h) (high t h) (λ i. y i k)
      (record {
        f = nth fs k;
        degree = le_of_eq ((find-found xs t d y s fs e).lengths k l);
        meets = λ i m.
            ap (value (nth fs k)) (sym (own_point t i m))
            ∙ agrees_word xs d y s (nth fs) i (sym (has-set_of (size t) (agrees xs d y s (nth fs)) i m) ∙ ap (λ (set : ℕ). has set i) a ∙ has-first_of (size t) i few m) k l;
      }))

pub all_agree : AllAgree
unfolding AllAgree
all_agree t d y h words = (every_passes t d y h words, all_on t d y h (find (own_points t) t d y (first_of (size t))) refl)

-- the squares of 1 to 5, one by one
at_squares : (i : ℕ) → i < 5 → value (0 ∷ 0 ∷ 1 ∷ []) (suc i) ≡ words_of squares i
unfolding value eval
at_squares zero l = refl
at_squares (suc zero) l = refl
at_squares (suc (suc zero)) l = refl
at_squares (suc (suc (suc zero))) l = refl
at_squares (suc (suc (suc (suc zero)))) l = refl
at_squares (suc (suc (suc (suc (suc i))))) l = omega arith

-- 65521 is the value of no polynomial, so fewer than three agree
above_p : (let y : ℕ → ℕ → ℕ = λ i k. words_of (65521 ∷ 0 ∷ 0 ∷ []) i in opened_from (own_points 1) 1 1 y 7 (find (own_points 1) 1 1 y 7)) ≡ unopened 1 7 16
unfolding tab all count keep first choose difference product power inverse eval value linear slopes interpolate size own_points bit has set_of card members_of
    surplus need agreeing through find unopened opened_from
above_p = refl

pub look_instances : LookInstances
unfolding size
look_instances =
    record {
      squares_lie = record { f = 0 ∷ 0 ∷ 1 ∷ []; degree = le_refl 3; meets = at_squares };
      squares_pass = (Parity.examples).squares_pass;
      cubes_do_not = λ l. clash (lies_balanced 2 (lit≤ tt) (lit≤ tt) _ l) (Parity.examples).cubes_fail;
      cubes_first = (Parity.examples).cubes_first;
      cubes_fail = (Parity.examples).cubes_fail;
      above_p_passes = (Parity.examples).of_p;
      above_p_refused = above_p;
      above_p_does_not = λ l. lt_irrefl prime (subst (λ (v : ℕ). v < prime) (l.meets 0 (suc-le-suc zero-le)) (value-word l.f 1));
    }
