-- Where some polynomial fits, E1 locates the errors: at the members of the set where E1 is not 0 the values are the polynomial's, and there are at
-- least t + 1 such members. So the polynomial through the first t + 1 of them is the only candidate.
--
-- N0 − f · E0 has exactly the degree a and is 0 at every agreeing member, so at least `need` is at most a; then N1 − f · E1 has too many roots for its degree,
-- and is 0.
-- Assumes nothing.
use mathlib.Core.Path.{◌≡◌, sym, ap, ◌∙◌, subst}
use mathlib.Core.Logic.{inl, inr}
use mathlib.Core.Bool.{Bool, true, cond, ◌&&◌, not}
use mathlib.Core.Option.{none, some}
use mathlib.Core.List.Sublistᴰ
use mathlib.Core.List.{List, [], ◌∷◌, map}
use Prim.Native.Nat.{ℕ, zero, suc, ◌+◌, ◌*◌, ◌≤◌, ◌<◌, zero-le, suc-le-suc}
use native.Mathlib.Nat.{le_trans, le_of_eq, not-le_of_lt, not-suc-le-zero, le_of_suc-le-suc}
use native.Mathlib.Decide.{dec_le}
use native.Mathlib.Omega.{arith}
use lib.Dec.{leb, eqb, lit<}
use lib.ListN.{length, get_or, take}
use lib.Seq.{length-take-le}
use borrow.Author.Tests.{eqb-true, eqb-false, leb-true, leb-false, not-true}
use Rattle.lists.specs.Tabulate.{tab, count}
use Rattle.lists.proofs.Bools.{test, and_left, and_right}
use Rattle.lists.proofs.Every.{Every, every_both}
use Rattle.lists.proofs.Count.{count_split}
use Rattle.lists.proofs.Choose.{every_sub, take-sub}
use Rattle.field.specs.Field.{prime}
use Rattle.field.proofs.Congruence.{◌≈◌, eq_same, same_sym, same_trans, same_eq, mult, times, ◌⊕◌, lc}
use Rattle.field.proofs.Fermat.{cancel}
use Rattle.polynomial.specs.Polynomial.{eval, value}
use Rattle.polynomial.proofs.Evaluation.{value_same, value-word}
use Rattle.polynomial.proofs.Roots.{Distinct}
use Rattle.polynomial.proofs.Interpolation.{interpolate_words}
use Rattle.members.specs.Members.{size, has, card}
use Rattle.members.proofs.Listed.{passing, passing_sub, passing_every, passing_below, length_passing}
use Rattle.locator.specs.Internal.Pairs.{State, passed}
use Rattle.decoding.specs.Internal.Candidate.{sound, chosen, candidate}
use Rattle.decoding.specs.Decoding.{need, agreeing, Fits, find}
use Rattle.locator.proofs.Points.{points_of, passing_points, count_points, at_points}
use Rattle.decoding.proofs.Unique.{need_twice, need_least, agrees, agrees_member, agrees_meets, card-agreeing, agreeing_same}
use Rattle.decoding.proofs.Search.{interpolated_same, length-interpolated, none_fits, find_is}
use Rattle.locator.proofs.Coefficients.{From, no_coefficient, no_value, mul, mul_zeros, less, eval_less, at_less}
use Rattle.locator.proofs.Invariant.{Met, Holds, passed_holds}

-- member i's word at the only place
abbrev pub alone : (ℕ → ℕ) → ℕ → ℕ → ℕ
alone y = λ i k. y i

value_0 : (f : List ℕ) (x : ℕ) → eval f x ≈ 0 → value f x ≡ 0
value_0 f x h = eq_same (value-word f x) (lit< tt) (same_trans (value_same f x) h)

eval_0 : (f : List ℕ) (x : ℕ) → value f x ≡ 0 → eval f x ≈ 0
eval_0 f x h = same_trans (same_sym (value_same f x)) (same_eq h)

module _ (xs : List ℕ) (distinct : Distinct xs) (t : ℕ) (long : length xs ≡ size t) (y : ℕ → ℕ) (set len : ℕ) (s : State) (H : Holds xs t y set len (size t) s) where
  -- E1 has at most b roots
  few_roots : count (size t) (λ i. has set i && eqb (value s.e1 (get_or xs i 0)) 0) ≤ s.b
  few_roots =
      let root : ℕ → Bool = λ i. has set i && eqb (value s.e1 (get_or xs i 0)) 0 in
      elim (dec_le (count (size t) root) s.b) [
        | yes l ↦ l
        | no l ↦
            absurd (H.lead1
            (no_coefficient (points_of xs (passing (size t) root)) s.e1 (suc s.b) H.from_e1
            (omega (arith, count_points xs (size t) long distinct root)) (passing_points xs (size t) long distinct root)
            (at_points xs (size t) long distinct root
            (λ i k h. eval_0 s.e1 (get_or xs i 0) (eqb-true (value s.e1 (get_or xs i 0)) 0 (and_right (has set i) (eqb (value s.e1 (get_or xs i 0)) 0) h))))
            s.b (omega arith)))
      ]

  module _ (f : ℕ → List ℕ) (F : Fits xs t 1 (alone y) set f) where
    agreed : ℕ → Bool
    agreed = agrees xs 1 (alone y) set f

    -- a pair less f times its E is 0 at every agreeing member
    vanishes : (n e : List ℕ) → Met xs y set (size t) n e → Every (λ z. eval (less n (f 0) e) z ≈ 0) (points_of xs (passing (size t) agreed))
    unfolding agreed
    vanishes n e m =
        at_points xs (size t) long distinct agreed
        (λ i l a. same_trans (eval_less n (f 0) e (get_or xs i 0))
        (zero (eval n (get_or xs i 0)) (eval e (get_or xs i 0)) (eval (f 0) (get_or xs i 0)) (y i)
        (m.at i l (agrees_member xs 1 (alone y) set f i a)) (agrees_meets xs 1 (alone y) set f i a 0 (suc-le-suc zero-le))))
      where
        zero : (n e g y : ℕ) → n ≈ y * e → g ≈ y → n + 65520 * (g * e) ≈ 0
        zero n e g y h k = lc (h ⊕ times (65520 * e) k) (mult 0 (y * e) (omega arith))

    enough_points : need t (card (size t) set) ≤ length (points_of xs (passing (size t) agreed))
    unfolding agreed
    enough_points = le_trans F.enough (le_of_eq (card-agreeing xs t 1 (alone y) set f ∙ sym (count_points xs (size t) long distinct agreed)))

    need_a : need t (card (size t) set) ≤ s.a
    need_a =
        elim (dec_le (need t (card (size t) set)) s.a) [
          | yes l ↦ l
          | no l ↦
              let g : List ℕ = f 0 in
              let deg : length g ≤ suc t = F.degree 0 (suc-le-suc zero-le) in
              let none_at : (j : ℕ) → s.a ≤ j → get_or (mul g s.e0) j 0 ≈ 0 = λ j k. mul_zeros g s.e0 s.a t H.zeros_e0 j (omega arith) in
              let from : From (suc s.a) (less s.n0 g s.e0) =
              record { zeros = λ j k. same_trans (at_less s.n0 g s.e0 j (none_at j (omega arith))) (H.from_n0.zeros j k) } in
              absurd (H.lead0
              (same_trans (same_sym (at_less s.n0 g s.e0 s.a (none_at s.a (omega arith))))
              (no_coefficient (points_of xs (passing (size t) agreed)) (less s.n0 g s.e0) (suc s.a) from (omega (arith, enough_points))
              (passing_points xs (size t) long distinct agreed) (vanishes s.n0 s.e0 H.met0) s.a (omega arith))))
        ]

    -- so the degree of E1 is small
    small_b : s.b + need t (card (size t) set) ≤ card (size t) set
    unfolding card
    small_b = omega (arith, need_a, H.degrees)

    quotient : (z : ℕ) → eval s.n1 z ≈ eval (f 0) z * eval s.e1 z
    quotient z =
        let g : List ℕ = f 0 in
        let deg : length g ≤ suc t = F.degree 0 (suc-le-suc zero-le) in
        let from : From (suc (s.b + t)) (less s.n1 g s.e1) =
        record {
          zeros =
              λ j k. same_trans
              (at_less s.n1 g s.e1 j (mul_zeros g s.e1 (suc (s.b + t)) t (λ i m. H.from_e1.zeros i (omega arith)) j (omega arith)))
              (H.from_n1.zeros j k);
        } in
        back (eval s.n1 z) (eval g z * eval s.e1 z)
        (same_trans (same_sym (eval_less s.n1 g s.e1 z))
        (no_value (points_of xs (passing (size t) agreed)) (less s.n1 g s.e1) (suc (s.b + t)) from
        (omega (arith, enough_points, small_b, need_twice t (card (size t) set)))
        (passing_points xs (size t) long distinct agreed) (vanishes s.n1 s.e1 H.met1) z))
      where
        back : (n m : ℕ) → n + 65520 * m ≈ 0 → n ≈ m
        back n m h = lc h (mult m 0 (omega arith))

    -- a member at which E1 is not 0 has the right value
    sound-value : (i : ℕ) → i < size t → sound xs set s.e1 i ≡ true → eval (f 0) (get_or xs i 0) ≈ y i
    unfolding sound
    sound-value i l h =
        let x : ℕ = get_or xs i 0 in
        let e : ℕ = eval s.e1 x in
        right e (eval (f 0) x) (y i) (eval s.n1 x)
        (λ z. eqb-false (value s.e1 x) 0 (not-true (eqb (value s.e1 x) 0) (and_right (has set i) (not (eqb (value s.e1 x) 0)) h)) (value_0 s.e1 x z))
        (quotient x) (H.met1.at i l (and_left (has set i) (not (eqb (value s.e1 x) 0)) h))
      where
        right : (e g y n : ℕ) → (e ≈ 0 → ⊥) → n ≈ g * e → n ≈ y * e → g ≈ y
        right e g y n ne h k = cancel e ne (same_trans (same_eq (omega arith)) (same_trans (same_sym h) (same_trans k (same_eq (omega arith)))))

    -- there are at least t + 1 such members
    sound_enough : suc t ≤ count (size t) (sound xs set s.e1)
    unfolding card sound
    sound_enough = omega (arith, few_roots, small_b, need_least t (count (size t) (has set)), count_split (size t) (has set) (λ i. eqb (value s.e1 (get_or xs i 0)) 0))

-- ---- what the decoder answers

small : {len : ℕ} (t : ℕ) → size t ≤ len → t < len
unfolding size
small t h = omega arith

module _ (xs : List ℕ) (distinct : Distinct xs) (t : ℕ) (long : length xs ≡ size t) (y : ℕ → ℕ) (set len : ℕ) (room : size t ≤ len) where
  -- too few members at which E1 is not 0: nothing fits
  pub few_sound : count (size t) (sound xs set (passed xs t y set len (size t)).e1) < suc t → find xs t 1 (alone y) set ≡ none
  few_sound h =
      none_fits xs distinct t long 1 (alone y) set
      (λ f F. not-le_of_lt h
      (sound_enough xs distinct t long y set len (passed xs t y set len (size t))
      (passed_holds xs distinct t y set len (small t room) (size t) (le_of_eq (sym long)) room) f F))

  -- enough: the candidate is what is found, if enough members agree with it
  pub by_candidate : (g : List ℕ) → g ≡ candidate xs t y set (passed xs t y set len (size t)).e1 → suc t ≤ count (size t) (sound xs set (passed xs t y set len (size t)).e1)
      → find xs t 1 (alone y) set ≡ cond (leb (need t (card (size t) set)) (card (size t) (agreeing xs t 1 (alone y) set (λ k. g)))) (some (g ∷ [])) none
  unfolding candidate chosen passing tab
  by_candidate g e h =
      let s : State = passed xs t y set len (size t) in
      let ps : List ℕ = passing (size t) (sound xs set s.e1) in
      let ms : List ℕ = take (suc t) ps in
      let many : length ms ≡ suc t = length-take-le (suc t) ps (le_trans h (le_of_eq (sym (length_passing (size t) (sound xs set s.e1))))) in
      let lg : length g ≡ suc t = ap length e ∙ length-interpolated xs y ms ∙ many in
      let wg : Every (λ c. c < prime) g = subst (Every (λ c. c < prime)) (sym e) (interpolate_words (points_of xs ms) (map y ms)) in
      let same : (f : ℕ → List ℕ) → Fits xs t 1 (alone y) set f → (k : ℕ) → k < 1 → (z : ℕ) → eval (f k) z ≈ eval g z =
      λ f F. at_0 (λ k. (z : ℕ) → eval (f k) z ≈ eval g z)
      (λ z. same_sym
      (same_trans (same_eq (ap (λ (c : List ℕ). eval c z) e))
      (interpolated_same xs distinct (size t) long y (f 0) ms (le_trans (F.degree 0 (suc-le-suc zero-le)) (le_of_eq (sym many)))
      (Sublistᴰ.trans (take-sub (suc t) ps) (passing_sub (size t) (sound xs set s.e1)))
      (every_sub (take-sub (suc t) ps)
      (every_both (sound-value xs distinct t long y set len s (passed_holds xs distinct t y set len (small t room) (size t) (le_of_eq (sym long)) room) f F)
      (passing_below (size t) (sound xs set s.e1)) (passing_every (size t) (sound xs set s.e1))))
      z))) in
      elim (test (leb (need t (card (size t) set)) (card (size t) (agreeing xs t 1 (alone y) set (λ k. g))))) [
        | inl b ↦
            find_is xs distinct t long 1 (alone y) set (λ k. g) (record { degree = λ k l. le_of_eq lg; enough = leb-true _ _ b }) (λ k l. lg) (λ k l. wg)
            ∙ sym (ap (λ (c : Bool). cond c (some (g ∷ [])) none) b)
        | inr b ↦
            none_fits xs distinct t long 1 (alone y) set
            (λ f F. not-le_of_lt (leb-false _ _ b) (le_trans F.enough (le_of_eq (ap (card (size t)) (agreeing_same xs t 1 (alone y) set f (λ k. g) (same f F))))))
            ∙ sym (ap (λ (c : Bool). cond c (some (g ∷ [])) none) b)
      ]
    where
      at_0 : (P : ℕ → Type 0) → P 0 → (k : ℕ) → k < 1 → P k
      at_0 P p zero l = p
      at_0 P p (suc k) l = absurd (not-suc-le-zero (le_of_suc-le-suc l))
