-- What trying the polynomial through some members decides. One that enough members agree with is the one that decoding answers, wherever it came from; and
-- where E was located, no polynomial fits but the one through the first t + 1 members at which E is not 0.
-- Assumes nothing.
use Rattle.std.proofs.Common.{◌≡◌, ℕ, suc, ◌+◌, ◌≤◌, ◌<◌, ◌^◌, Bool, true, false, cond, List}
use Rattle.std.proofs.Common.{[], ◌∷◌, length, take, get_or, sym, ap, ap₂, ◌∙◌, subst, add-one, arith}
use Rattle.std.specs.Prelude.{Option, Some, None}
use Rattle.std.specs.Option.{ok_or}
use Rattle.std.proofs.Math.Option as math
use Rattle.std.proofs.Math.Option.{none, some}
use native.Mathlib.Nat.{le_of_eq}
use lib.Seq.{length-take-le}
use borrow.Author.Tests.{leb-true}
use Rattle.lists.specs.Tabulate.{tab, count}
use Rattle.lists.proofs.Every.{Every}
use Rattle.field.specs.Field.{prime}
use Rattle.polynomial.specs.Polynomial.{interpolate, interpolated}
use Rattle.polynomial.proofs.Interpolation.{length-interpolate, interpolate_words}
use Rattle.polynomial.proofs.Roots.{Distinct}
use Rattle.polynomial.proofs.Newton.{interpolated_yes}
use Rattle.members.specs.Members.{size, card}
use Rattle.members.proofs.Words.{size_31, card_32}
use Rattle.decoding.specs.Internal.Candidate.{sound, candidate, AtHand, Tried}
use Rattle.refusals.specs.declared.Refusal.{Refusal}
use Rattle.decoding.specs.declared.Word.{Word}
use Rattle.decoding.specs.Internal.Outcome.{outcome}
use Rattle.decoding.specs.Internal.Words.{solution, located, enough_meet}
use Rattle.decoding.specs.Decoding.{need, undecoded, decoded_from}
use Rattle.decoding.proofs.Points.{distinct_roster}
use Rattle.decoding.proofs.Search.{find_is}
use Rattle.decoding.proofs.Candidate.{few_sound, by_candidate}

module _ (w : Word) where
  distinct : Distinct w.points.now
  distinct = distinct_roster w.roster

  -- too few members to go through
  pub tried_few : (e : List ℕ) → count (size w.t) (sound w.points.now w.set e) < suc w.t → e ≡ located w → solution w ≡ none
  tried_few e few there =
      few_sound w.points.now distinct w.t w.roster.long (λ i. get_or w.values.now i 0) w.set 31 (size_31 w.t w.small)
      (subst (λ (f : List ℕ). count (size w.t) (sound w.points.now w.set f) < suc w.t) there few)

  module _ (e points kept g : List ℕ) (G : AtHand w e points kept) (long_points : length points ≡ 16) (long : length kept ≡ suc w.t)
      (through : g ≡ interpolated (take (w.t + 1) points) kept) where
    as_many : length kept ≡ length (take (w.t + 1) points)
    as_many = long ∙ sym (add-one w.t) ∙ sym (length-take-le (w.t + 1) points (omega (arith, w.small)))

    is_interpolated : g ≡ interpolate (take (w.t + 1) points) kept
    is_interpolated = through ∙ interpolated_yes (take (w.t + 1) points) kept (sym as_many)

    length_tried : length g ≡ suc w.t
    length_tried = ap length is_interpolated ∙ length-interpolate (take (w.t + 1) points) kept as_many ∙ sym as_many ∙ long

    words_tried : Every (λ c. c < prime) g
    words_tried = subst (Every (λ c. c < prime)) (sym is_interpolated) (interpolate_words (take (w.t + 1) points) kept)

    is_candidate : g ≡ candidate w.points.now w.t (λ i. get_or w.values.now i 0) w.set e
    unfolding candidate
    is_candidate = is_interpolated ∙ ap₂ interpolate (ap (λ (k : ℕ). take k points) (add-one w.t) ∙ G.points_are) G.values_are

    -- as many members agree as have to, if e is the located one
    decided : e ≡ located w → solution w ≡ cond (enough_meet w g) (some (g ∷ [])) none
    decided there =
        by_candidate w.points.now distinct w.t w.roster.long (λ i. get_or w.values.now i 0) w.set 31 (size_31 w.t w.small) g
        (is_candidate ∙ ap (candidate w.points.now w.t (λ i. get_or w.values.now i 0) w.set) there)
        (subst (λ (f : List ℕ). suc w.t ≤ count (size w.t) (sound w.points.now w.set f)) there G.enough)

    pub tried : (right : Bool) → right ≡ enough_meet w g → Tried w e g (cond right (Some tt) None)
    unfolding decoded_from tab
    tried true e_is =
        sym (ap (decoded_from (suc w.t))
        (find_is w.points.now distinct w.t w.roster.long 1 (λ i k. get_or w.values.now i 0) w.set (λ k. g)
        (record { degree = λ k l. le_of_eq length_tried; enough = leb-true _ _ (sym e_is) }) (λ k l. length_tried) (λ k l. words_tried)))
    tried false e_is = λ there. decided there ∙ ap (λ (b : Bool). cond b (some (g ∷ [])) none) (sym e_is)

-- none that fits: a refusal
pub refused_16 : (t len : ℕ) (o : math.Option (List (List ℕ))) → o ≡ none → len ≡ suc t → undecoded len 16 ≡ decoded_from (suc t) o
unfolding decoded_from
refused_16 t len o e l = ap (λ (k : ℕ). undecoded k 16) l ∙ sym (ap (decoded_from (suc t)) e)

-- what trying the polynomial by the located E decides
pub decided_by : (w : Word) (e g : List ℕ) → e ≡ located w → length g ≡ suc w.t → (o : Option (Unit {0})) → Tried w e g o
    → outcome (ok_or o Refusal.TooFewAgree) g ≡ decoded_from (suc w.t) (solution w)
decided_by w e g there l (Some _) right = right
decided_by w e g there l None none_right = refused_16 w.t (length g) (solution w) (none_right there) l

-- how many have to agree, of the members that the mask has
pub need_is : (t set s least : ℕ) → t ≤ 15 → set < 2 ^ size t → s ≡ card 32 set → least ≡ need t s → least ≡ need t (card (size t) set)
need_is t set s least small proper es en = en ∙ ap (need t) (es ∙ card_32 t set small proper)
