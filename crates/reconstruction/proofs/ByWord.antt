-- One word of opening: what the decoder's answer says of its polynomial, and who meets it.
-- Assumes nothing.
use mathlib.Core.Path.{◌≡◌, refl, sym, ap, ap₂, ◌∙◌, subst}
use mathlib.Core.Logic.{inl, inr}
use mathlib.Core.Bool.{Bool, true, false, ◌&&◌, and-true}
use mathlib.Core.Option.{Option, none, some}
use mathlib.Core.List.{List, [], ◌∷◌}
use Prim.Native.Nat.{ℕ, suc, ◌+◌, ◌≤◌, ◌<◌, ◌^◌, zero-le, suc-le-suc}
use native.Mathlib.Nat.{le_of_eq, suc-ne-zero, suc_inj}
use native.Mathlib.Numerals.{add-one}
use native.Mathlib.Omega.{arith}
use lib.Dec.{eqb, ltb}
use lib.ListN.{length, get_or}
use borrow.Author.Tests.{eq-eqb, le-leb, lt-ltb, ltb-false}
use Rattle.std.specs.Prelude.{Result, Ok, Err}
use Rattle.refusals.specs.declared.Refusal.{Refusal}
use Rattle.refusals.proofs.Numbers.{positive}
use Rattle.lists.specs.Tabulate.{tab, all}
use Rattle.lists.proofs.Bools.{test}
use Rattle.lists.proofs.Every.{Every}
use Rattle.lists.proofs.Tabulate.{length-tab, get_or-tab, all_intro}
use Rattle.field.specs.Field.{prime}
use Rattle.polynomial.specs.Polynomial.{value, interpolate}
use Rattle.polynomial.proofs.Interpolation.{length-interpolate, interpolate_words}
use Rattle.members.specs.Members.{size, own_points, has, set_of, card}
use Rattle.members.proofs.Masks.{set_of_ext, set_of-lt}
use Rattle.members.proofs.Points.{length_own, own_point}
use Rattle.members.proofs.Words.{size_32, card_32}
use Rattle.shares.proofs.Shapes.{station, is_a_threshold}
use Rattle.decoding.specs.Answer.{answer_of}
use Rattle.decoding.specs.Decoding.{Decoded, need, agreeing, nth, find, undecoded, decoded_from, decode}
use Rattle.decoding.proofs.Apart.{find_ext}
use Rattle.decoding.proofs.Points.{own_distinct}
use Rattle.decoding.proofs.Refusals.{judged_at, accepts}
use Rattle.decoding.proofs.Search.{find-found, find_is}
use Rattle.decoding.proofs.Words.{word_at}
use Rattle.reconstruction.specs.declared.Survivors.{Survivors}
use Rattle.reconstruction.specs.Internal.Steps.{Got}
use Rattle.reconstruction.specs.Internal.Words.{words}
use Rattle.reconstruction.proofs.Sets.{both_of}

-- a refusal means that there is no polynomial
refused_none : (len : ℕ) (why : Refusal) (buffer : List ℕ) (o : Option (List (List ℕ))) → answer_of (Err why) buffer ≡ decoded_from len o → o ≡ none
unfolding decoded_from
refused_none len why buffer none e = refl
refused_none len why buffer (some fs) e = absurd (omega (arith, positive why, ap (λ (a : Decoded). a.number) e))

-- the one of a list of one
pub single : (fs : List (List ℕ)) → length fs ≡ 1 → fs ≡ nth fs 0 ∷ []
single [] e = absurd (suc-ne-zero 0 (sym e))
single (f ∷ []) e = refl
single (f ∷ g ∷ fs) e = absurd (suc-ne-zero (length fs) (suc_inj e))

-- and an answer that is found, that the coefficients in the buffer are those of the one found
found-one : (len : ℕ) (buffer : List ℕ) (o : Option (List (List ℕ))) → ((fs : List (List ℕ)) → o ≡ some fs → length fs ≡ 1)
    → (let a : Decoded = record { number = 0; coefficients = buffer } in a) ≡ decoded_from len o → o ≡ some (buffer ∷ [])
unfolding decoded_from undecoded
found-one len buffer none one e = let z : ◌≡◌ {A = ℕ} 0 16 = ap (λ (a : Decoded). a.number) e in absurd (omega arith)
found-one len buffer (some fs) one e = ap some (single fs (one fs refl) ∙ ap (λ (f : List ℕ). f ∷ []) (sym (ap (λ (a : Decoded). a.coefficients) e)))

-- word k has a polynomial f: of the agreeing members those left meet it, and v is its value at 0
pub record Turned (xs : List ℕ) (t : ℕ) (y : ℕ → ℕ → ℕ) (s agreed k left v : ℕ) : Type 0 where
  pub f : List ℕ
  pub found : find xs t 1 (word_at y k) s ≡ some (f ∷ [])
  pub members : left ≡ set_of (size t) (λ i. has agreed i && eqb (value f (get_or xs i 0)) (y i k))
  pub at_zero : v ≡ value f 0

module _ (remaining : Survivors) (k : ℕ) (h : k < remaining.shares.shape.d) where
  open remaining use {set as s, decodable as dec, shares.{shape, shape.{t, d, t_high as low}}}

  abbrev the_word : ℕ → ℕ
  the_word i = words remaining i k

  abbrev found : Option (List (List ℕ))
  found = find (own_points t) t 1 (λ i j. the_word i) s

  module _ (values : List ℕ) (ev : values ≡ tab shape.n the_word) where
    value_at : (i : ℕ) → i < size t → get_or values i 0 ≡ the_word i
    value_at i l =
        ap (λ (v : List ℕ). get_or v i 0) ev ∙ get_or-tab shape.n the_word i 0 (subst (λ (m : ℕ). i < m) (sym shape.members) l)

    as_many : length values ≡ size t
    as_many = ap length ev ∙ length-tab shape.n the_word ∙ shape.members

    judged : (i : ℕ) → i < size t → judged_at values s i ≡ true
    judged i l =
        elim (test (has s i)) [
          | inl e ↦ rw (e, value_at i l) (lt-ltb (the_word i) prime (dec.field i l e k h))
          | inr e ↦ rw e
        ]

    -- the decoder's answer is that of the word
    pub decodes : (len : ℕ) → len ≡ suc t → (r : Result (Unit {0}) Refusal) (f : List ℕ) → answer_of r f ≡ decode t values s len
        → answer_of r f ≡ decoded_from (suc t) found
    decodes len el r f a =
        a
        ∙ accepts t values s len (is_a_threshold t d (station shape).range) (eq-eqb (length values) (size t) as_many) (eq-eqb len (suc t) el)
        (lt-ltb s (2 ^ size t) dec.below) (le-leb (suc t) (card (size t) s) dec.enough) (all_intro (size t) (judged_at values s) judged)
        ∙ ap (decoded_from (suc t))
        (find_ext (own_points t) (own_distinct t low) t (length_own t) 1 s (λ i j. get_or values i 0) (λ i j. the_word i)
        (λ i l j m. value_at i l))

  -- what is expected at 0 and of the members are values of f, and met are those that meet it
  module _ (f expected : List ℕ) (e : expected ≡ tab (suc shape.n) (value f)) (met : ℕ)
      (em : met ≡ set_of shape.n (λ i. eqb (get_or expected (i + 1) 0) (the_word i))) where
    expected_at : (x : ℕ) → x ≤ shape.n → get_or expected x 0 ≡ value f x
    expected_at x l = ap (λ (l : List ℕ). get_or l x 0) e ∙ get_or-tab (suc shape.n) (value f) x 0 (suc-le-suc l)

    met_is : met ≡ set_of (size t) (λ i. eqb (value f (get_or (own_points t) i 0)) (the_word i))
    met_is =
        em
        ∙ ap (λ (n : ℕ). set_of n (λ i. eqb (get_or expected (i + 1) 0) (the_word i))) shape.members
        ∙ set_of_ext (size t) (λ i. eqb (get_or expected (i + 1) 0) (the_word i)) (λ i. eqb (value f (get_or (own_points t) i 0)) (the_word i))
        (λ i l.
        ap (λ (v : ℕ). eqb v (the_word i))
        (expected_at (i + 1) (omega (arith, shape.members)) ∙ ap (value f) (add-one i ∙ sym (own_point t i l))))

    got : found ≡ some (f ∷ []) → Got (own_points t) t (words remaining) s k met (get_or expected 0 0)
    got q = record { f = f; found = q; meets = met_is; at_zero = expected_at 0 zero-le }

    -- enough survivors meet it
    module _ (left : ℕ) (el : left ≡ set_of 32 (λ i. has s i && has met i)) (b : Bool)
        (eb : b ≡ ltb (card 32 left) (need t (card 32 s))) (enough : b ≡ false) where
      left_is : left ≡ set_of (size t) (λ i. has s i && eqb (value f (get_or (own_points t) i 0)) (the_word i))
      left_is = el ∙ both_of (size t) s met (λ i. eqb (value f (get_or (own_points t) i 0)) (the_word i)) (size_32 t low) dec.below met_is

      left_agree : left ≡ agreeing (own_points t) t 1 (λ i j. the_word i) s (λ j. f)
      unfolding agreeing all
      left_agree =
          left_is
          ∙ set_of_ext (size t) (λ i. has s i && eqb (value f (get_or (own_points t) i 0)) (the_word i)) _
          (λ i l. ap (λ (c : Bool). has s i && c) (sym (and-true (eqb (value f (get_or (own_points t) i 0)) (the_word i)))))

      left_below : left < 2 ^ size t
      left_below =
          subst (λ (m : ℕ). m < 2 ^ size t) (sym left_is) (set_of-lt (size t) (λ i. has s i && eqb (value f (get_or (own_points t) i 0)) (the_word i)))

      many : need t (card (size t) s) ≤ card (size t) (agreeing (own_points t) t 1 (λ i j. the_word i) s (λ j. f))
      many =
          subst (λ (m : ℕ). need t (card (size t) s) ≤ card (size t) m) left_agree
          (ltb-false (card (size t) left) (need t (card (size t) s))
          (sym (ap₂ (λ (a c : ℕ). ltb a (need t c)) (card_32 t left low left_below) (card_32 t s low dec.below)) ∙ sym eb ∙ enough))

      fits_found : length f ≡ suc t → Every (λ c. c < prime) f → found ≡ some (f ∷ [])
      unfolding tab
      fits_found lf wf =
          find_is (own_points t) (own_distinct t low) t (length_own t) 1 (λ i j. the_word i) s (λ j. f)
          (record { degree = λ j l. le_of_eq lf; enough = many }) (λ j l. lf) (λ j l. wf)

  -- the decoder finds none, or one
  pub came_none : (why : Refusal) (f : List ℕ) → answer_of (Err why) f ≡ decoded_from (suc t) found → found ≡ none
  came_none why f a = refused_none (suc t) why f found a

  pub came_found : (f : List ℕ) → answer_of (Ok tt) f ≡ decoded_from (suc t) found
      → {expected : List ℕ} {len : ℕ} → len ≡ suc shape.n → expected ≡ tab len (value f)
      → {met : ℕ} → met ≡ set_of shape.n (λ i. eqb (get_or expected (i + 1) 0) (the_word i))
      → Got (own_points t) t (words remaining) s k met (get_or expected 0 0)
  came_found f a {expected} {len} el ee {met} em =
      got f expected (ee ∙ ap (λ (n : ℕ). tab n (value f)) el) met em
      (found-one (suc t) f found (λ fs q. (find-found (own_points t) t 1 (λ i j. the_word i) s fs q).places) a)

  -- the matrix gives one that enough survivors meet
  pub came_read : (points ys : List ℕ) → length points ≡ suc t → length ys ≡ suc t
      → {expected : List ℕ} → expected ≡ tab (suc shape.n) (value (interpolate points ys))
      → {met : ℕ} → met ≡ set_of shape.n (λ i. eqb (get_or expected (i + 1) 0) (the_word i))
      → {left : ℕ} → left ≡ set_of 32 (λ i. has s i && has met i) → {b : Bool} → b ≡ ltb (card 32 left) (need t (card 32 s)) → b ≡ false
      → Got (own_points t) t (words remaining) s k met (get_or expected 0 0)
  came_read points ys lp ly {expected} ee {met} em {left} el {b} eb enough =
      let f : List ℕ = interpolate points ys in
      got f expected ee met em
      (fits_found f expected ee met em left el b eb enough (length-interpolate points ys (ly ∙ sym lp) ∙ lp) (interpolate_words points ys))

-- of the agreeing members those that meet a word's polynomial are left
pub turned_both : (xs : List ℕ) (t : ℕ) (y : ℕ → ℕ → ℕ) (s agreed k met left v : ℕ) → Got xs t y s k met v → size t ≤ 32 → agreed < 2 ^ size t
    → left ≡ set_of 32 (λ i. has agreed i && has met i) → Turned xs t y s agreed k left v
turned_both xs t y s agreed k met left v g h below el =
    record {
      f = g.f;
      found = g.found;
      members = el ∙ both_of (size t) agreed met (λ i. eqb (value g.f (get_or xs i 0)) (y i k)) h below g.meets;
      at_zero = g.at_zero;
    }
