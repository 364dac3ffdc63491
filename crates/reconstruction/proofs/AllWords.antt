-- The words one after the other come to the polynomials of all words: the turn of the loop, for any distinct points and then at the members' own.
-- Assumes nothing.
use mathlib.Core.Path.{◌≡◌, sym, ap, ap₂, ◌∙◌, subst}
use mathlib.Core.Bool.{Bool, true, false, ◌&&◌, cond, and_assoc}
use mathlib.Core.Logic.{inl, inr}
use mathlib.Core.Option.{Option, none, some}
use mathlib.Core.List.{List, [], ◌∷◌, ◌++◌}
use Prim.Native.Nat.{ℕ, suc, ◌+◌, ◌≤◌, ◌<◌, ◌^◌, zero-le, suc-le-suc}
use native.Mathlib.Nat.{le_trans, le_of_eq, eq-or-lt_of_le, le_of_suc-le-suc}
use native.Mathlib.Numerals.{add-one}
use native.Mathlib.Omega.{arith}
use lib.Dec.{eqb, ltb}
use lib.ListN.{length, get_or, take, set, length-set}
use lib.Seq.{take-suc-set, take_all, length-take-le, get_or-take}
use borrow.Author.Tests.{eq-eqb, le-leb, ltb-true, ltb-false}
use Rattle.lists.specs.Tabulate.{tab, all}
use Rattle.lists.proofs.Blocks.{tab_more}
use Rattle.lists.proofs.Bools.{and_intro, and_left, same_test}
use Rattle.lists.proofs.Count.{count_mono}
use Rattle.lists.proofs.Tabulate.{tab_ext, tab-get_or, get_or-tab, all_intro, all_last}
use Rattle.field.proofs.Congruence.{same_eq}
use Rattle.polynomial.specs.Polynomial.{eval, value}
use Rattle.polynomial.proofs.Roots.{Distinct}
use Rattle.members.specs.Members.{size, own_points, has, set_of, card}
use Rattle.members.proofs.Masks.{has-set_of, set_of-lt, set_of_ext, set_of-has, card-set_of}
use Rattle.members.proofs.Points.{length_own}
use Rattle.members.proofs.Words.{size_32, card_32}
use Rattle.decoding.specs.Decoding.{surplus, need, agreeing, Fits, nth, find}
use Rattle.decoding.proofs.Apart.{too_few}
use Rattle.decoding.proofs.Points.{own_distinct}
use Rattle.decoding.proofs.Search.{find-found, find_complete}
use Rattle.decoding.proofs.Unique.{need_least, agrees, card-agreeing, agreeing_same, fits_value}
use Rattle.decoding.proofs.Words.{word_at, no_word, by_words_lem}
use Rattle.reconstruction.specs.Reconstruction.{Opened, unopened, at_zero_of, opened_from}
use Rattle.reconstruction.specs.declared.Survivors.{Survivors}
use Rattle.reconstruction.specs.Internal.Steps.{Met, Begun, Got, by_words}
use Rattle.reconstruction.specs.Internal.Words.{words}
use Rattle.reconstruction.proofs.ByWord.{single, Turned, turned_both}

-- enough of a set are not more than all
need-all : (t s : ℕ) → suc t ≤ s → need t s ≤ s
unfolding need surplus
need-all t s h = omega arith

-- the polynomial of one word
unfoldable pub poly_of : Option (List (List ℕ)) → List ℕ
poly_of none = []
poly_of (some fs) = nth fs 0

-- the front of a list by its places
take-tab : (k : ℕ) (l : List ℕ) → k ≤ length l → take k l ≡ tab k (λ j. get_or l j 0)
take-tab k l h =
    sym (tab-get_or (take k l) 0)
    ∙ ap (λ (n : ℕ). tab n (λ j. get_or (take k l) j 0)) (length-take-le k l h)
    ∙ tab_ext k (λ j. get_or (take k l) j 0) (λ j. get_or l j 0) (λ j m. get_or-take k l j 0 m)

-- word j's polynomial
abbrev pub poly : List ℕ → ℕ → (ℕ → ℕ → ℕ) → ℕ → ℕ → List ℕ
poly xs t y s j = poly_of (find xs t 1 (word_at y j) s)

-- member i meets the first k words' polynomials
abbrev pub meets_all : List ℕ → ℕ → (ℕ → ℕ → ℕ) → ℕ → ℕ → ℕ → Bool
meets_all xs t y s k i = has s i && all k (λ j. eqb (value (poly xs t y s j) (get_or xs i 0)) (y i j))

-- after k words: each has its polynomial, enough of the set meet all of them, and their values at 0 are stored
pub record Going (xs : List ℕ) (t d : ℕ) (y : ℕ → ℕ → ℕ) (s agreed : ℕ) (secret : List ℕ) (k : ℕ) : Type 0 where
  pub inside : k ≤ d
  pub length_secret : length secret ≡ d
  pub each : (j : ℕ) → j < k → find xs t 1 (word_at y j) s ≡ some (poly xs t y s j ∷ [])
  pub members : agreed ≡ set_of (size t) (meets_all xs t y s k)
  pub many : need t (card (size t) s) ≤ card (size t) agreed
  pub so_far : take k secret ≡ tab k (λ j. value (poly xs t y s j) 0)

module _ (xs : List ℕ) (distinct : Distinct xs) (t : ℕ) (long : length xs ≡ size t) (d : ℕ) (y : ℕ → ℕ → ℕ) (s : ℕ) where
  -- words that are opened already
  module _ (enough : suc t ≤ card (size t) s) (j v : ℕ) (met : Met xs t y s j v) where
    met_fits : Fits xs t 1 (word_at y j) s (λ i. met.f)
    unfolding card
    met_fits =
        record {
          degree = λ k l. met.degree;
          enough =
              le_trans (need-all t (card (size t) s) enough)
              (le_trans
              (count_mono (size t) (has s) (agrees xs 1 (word_at y j) s (λ i. met.f))
              (λ i l e. and_intro e
              (all_intro 1 (λ k. eqb (value met.f (get_or xs i 0)) (y i j)) (λ k m. eq-eqb (value met.f (get_or xs i 0)) (y i j) (met.meets i l e)))))
              (le_of_eq (sym (card-agreeing xs t 1 (word_at y j) s (λ i. met.f)))));
        }

    met_found : find xs t 1 (word_at y j) s ≡ some (poly xs t y s j ∷ [])
    unfolding poly_of
    met_found =
        let (fs, e) = find_complete xs distinct t long 1 (word_at y j) s (λ i. met.f) met_fits in
        let one : fs ≡ nth fs 0 ∷ [] = single fs (find-found xs t 1 (word_at y j) s fs e).places in
        e ∙ ap some (one ∙ ap (λ (g : List ℕ). g ∷ []) (sym (ap poly_of e)))

    met_value : (z : ℕ) → value (poly xs t y s j) z ≡ value met.f z
    met_value z =
        fits_value xs distinct t long 1 (word_at y j) s (nth (poly xs t y s j ∷ [])) (λ i. met.f)
        (find-found xs t 1 (word_at y j) s (poly xs t y s j ∷ []) met_found).fits met_fits 0 (suc-le-suc zero-le) z

  pub going_begun : (secret : List ℕ) (k : ℕ) → s < 2 ^ size t → suc t ≤ card (size t) s → length secret ≡ d → Begun xs t d y s k secret
      → Going xs t d y s s secret k
  going_begun secret k below enough e begun =
      record {
        inside = begun.inside;
        length_secret = e;
        each = λ j l. met_found enough j _ (begun.each j l);
        members =
            sym
            (set_of_ext (size t) (meets_all xs t y s k) (has s) (λ i l. same_test (meets_all xs t y s k i) (has s i) (and_left (has s i) _) (all_met i l))
            ∙ set_of-has (size t) s below);
        many = need-all t (card (size t) s) enough;
        so_far =
            take-tab k secret (le_trans begun.inside (le_of_eq (sym e)))
            ∙ tab_ext k (λ j. get_or secret j 0) (λ j. value (poly xs t y s j) 0)
            (λ j l. (begun.each j l).at_zero ∙ sym (met_value enough j _ (begun.each j l) 0));
      }
    where
      all_met : (i : ℕ) → i < size t → has s i ≡ true → meets_all xs t y s k i ≡ true
      all_met i l h =
          and_intro h
          (all_intro k (λ j. eqb (value (poly xs t y s j) (get_or xs i 0)) (y i j))
          (λ j m. eq-eqb _ (y i j) (met_value enough j _ (begun.each j m) (get_or xs i 0) ∙ (begun.each j m).meets i l h)))

  module _ (agreed : ℕ) (secret : List ℕ) (k : ℕ) (going : Going xs t d y s agreed secret k) (more : k < d)
      (left v : ℕ) (turned : Turned xs t y s agreed k left v) where
    its_poly : turned.f ≡ poly xs t y s k
    unfolding poly_of
    its_poly = sym (ap poly_of turned.found)

    -- those left meet the first k + 1 words' polynomials
    left_meet : left ≡ set_of (size t) (meets_all xs t y s (suc k))
    left_meet =
        turned.members
        ∙ set_of_ext (size t) (λ i. has agreed i && eqb (value turned.f (get_or xs i 0)) (y i k)) (meets_all xs t y s (suc k))
        (λ i l.
        ap₂ (λ (b : Bool) (g : List ℕ). b && eqb (value g (get_or xs i 0)) (y i k))
        (ap (λ (m : ℕ). has m i) going.members ∙ has-set_of (size t) (meets_all xs t y s k) i l) its_poly
        ∙ and_assoc (has s i) (all k (λ j. eqb (value (poly xs t y s j) (get_or xs i 0)) (y i j))) (eqb (value (poly xs t y s k) (get_or xs i 0)) (y i k))
        ∙ ap (λ (b : Bool). has s i && b) (sym (all_last k (λ j. eqb (value (poly xs t y s j) (get_or xs i 0)) (y i j)))))

    each_more : (j : ℕ) → j < suc k → find xs t 1 (word_at y j) s ≡ some (poly xs t y s j ∷ [])
    each_more j l =
        elim (eq-or-lt_of_le (le_of_suc-le-suc l)) [
          | inl q ↦
              subst (λ (m : ℕ). find xs t 1 (word_at y m) s ≡ some (poly xs t y s m ∷ [])) (sym q) (turned.found ∙ ap (λ (g : List ℕ). some (g ∷ [])) its_poly)
          | inr q ↦ going.each j q
        ]

    -- too few are left: there are no polynomials for all words
    going_few : card (size t) left < need t (card (size t) s) → find xs t d y s ≡ none
    going_few few =
        too_few xs distinct t long d s y (poly xs t y s) (suc k) more each_more
        (subst (λ (m : ℕ). m < need t (card (size t) s)) (ap (card (size t)) left_meet ∙ card-set_of (size t) (meets_all xs t y s (suc k))) few)

    -- enough are left, and the value at 0 is stored
    going_next : need t (card (size t) s) ≤ card (size t) left → (x : ℕ) → x ≡ v → Going xs t d y s left (set secret k x) (k + 1)
    going_next enough x stored =
        subst (Going xs t d y s left (set secret k x)) (sym (add-one k))
        (record {
          inside = more;
          length_secret = length-set secret k x ∙ going.length_secret;
          each = each_more;
          members = left_meet;
          many = enough;
          so_far =
              take-suc-set secret k x (subst (λ (m : ℕ). k < m) (sym going.length_secret) more)
              ∙ ap₂ (λ (l : List ℕ) (z : ℕ). l ++ (z ∷ [])) going.so_far (stored ∙ turned.at_zero ∙ ap (λ (g : List ℕ). value g 0) its_poly)
              ∙ sym (tab_more k (λ j. value (poly xs t y s j) 0));
        })

  -- all words are done
  pub going_last : (agreed : ℕ) (secret : List ℕ) (k : ℕ) → d ≤ k → Going xs t d y s agreed secret k
      → (let a : Opened = record { number = 0; survivors = s; agreeing = agreed; secret = secret } in a) ≡ opened_from xs t d y s (find xs t d y s)
  unfolding opened_from agreeing at_zero_of
  going_last agreed secret k h going =
      let q : k ≡ d = omega (arith, going.inside) in
      let g : Going xs t d y s agreed secret d = subst (Going xs t d y s agreed secret) q going in
      let fs : List (List ℕ) = tab d (poly xs t y s) in
      let same : (j : ℕ) → j < d → poly xs t y s j ≡ nth fs j = λ j l. sym (get_or-tab d (poly xs t y s) j [] l) in
      let found : find xs t d y s ≡ some fs =
      by_words_lem xs distinct t long d y s (poly xs t y s) g.each
      ∙ ap (λ (b : Bool). cond b (some fs) none)
      (le-leb (need t (card (size t) s)) (card (size t) (agreeing xs t d y s (poly xs t y s))) (le_trans g.many (le_of_eq (ap (card (size t)) g.members)))) in
      let members : agreed ≡ agreeing xs t d y s (nth fs) =
      g.members ∙ agreeing_same xs t d y s (poly xs t y s) (nth fs) (λ j l z. same_eq (ap (λ (f : List ℕ). eval f z) (same j l))) in
      let stored : secret ≡ at_zero_of d (nth fs) =
      sym (take_all d secret (le_of_eq g.length_secret))
      ∙ g.so_far
      ∙ tab_ext d (λ j. value (poly xs t y s j) 0) (λ j. value (nth fs j) 0) (λ j l. ap (λ (f : List ℕ). value f 0) (same j l)) in
      (λ i. record { number = 0; survivors = s; agreeing = members i; secret = stored i }) ∙ sym (ap (opened_from xs t d y s) found)

-- nothing is found: the refusal 16
nothing : (xs : List ℕ) (t d : ℕ) (y : ℕ → ℕ → ℕ) (s : ℕ) → find xs t d y s ≡ none → (answer : Opened) (len : ℕ) → len ≡ d → answer ≡ unopened len s 16
    → answer ≡ opened_from xs t d y s (find xs t d y s)
unfolding opened_from
nothing xs t d y s None-found answer len el e = e ∙ ap (λ (m : ℕ). unopened m s 16) el ∙ sym (ap (opened_from xs t d y s) None-found)

-- The same at the members' own points, as the code has it.
module _ (remaining : Survivors) where
  open remaining use {set as s, decodable as dec, shares.{shape, shape.{t, d, t_high as low}}}

  abbrev y : ℕ → ℕ → ℕ
  y = words remaining

  abbrev Opening : ℕ → List ℕ → ℕ → Type 0
  Opening = Going (own_points t) t d y s

  abbrev answered : Opened
  answered = by_words shape remaining.shares.words.now s

  pub opening_begun : {secret : List ℕ} {k : ℕ} → length secret ≡ d → Begun (own_points t) t d y s k secret → Opening s secret k
  opening_begun {secret} {k} = going_begun (own_points t) (own_distinct t low) t (length_own t) d y s secret k dec.below dec.enough

  module _ {agreed : ℕ} {secret : List ℕ} {k : ℕ} (going : Opening agreed secret k) where
    pub opening_last : d ≤ k → (let a : Opened = record { number = 0; survivors = s; agreeing = agreed; secret = secret } in a) ≡ answered
    opening_last h = going_last (own_points t) (own_distinct t low) t (length_own t) d y s agreed secret k h going

    -- at least t + 1 members agree so far
    opening_below : (agreed < 2 ^ size t) × (suc t ≤ card (size t) agreed)
    opening_below = (
      subst (λ (m : ℕ). m < 2 ^ size t) (sym going.members) (set_of-lt (size t) (meets_all (own_points t) t y s k)),
      le_trans (need_least t (card (size t) s)) going.many,
    )

    pub opening-set : agreed < 2 ^ shape.n
    opening-set = subst (λ (n : ℕ). agreed < 2 ^ n) (sym shape.members) opening_below.0

    pub opening_enough : {m : ℕ} → m ≡ suc t → m ≤ card shape.n agreed
    opening_enough e = le_trans (le_of_eq e) (subst (λ (n : ℕ). suc t ≤ card n agreed) (sym shape.members) opening_below.1)

    module _ (more : k < d) where
      -- nothing is found for word k
      pub opening_none : find (own_points t) t 1 (λ i j. y i k) s ≡ none → {answer : Opened} → answer ≡ unopened (length secret) s 16 → answer ≡ answered
      opening_none e {answer} =
          nothing (own_points t) t d y s (no_word (own_points t) (own_distinct t low) t (length_own t) d y s k more e)
          answer (length secret) going.length_secret

      module _ {met v : ℕ} (got : Got (own_points t) t y s k met v)
          {left : ℕ} (el : left ≡ set_of 32 (λ i. has agreed i && has met i)) {b : Bool} (eb : b ≡ ltb (card 32 left) (need t (card 32 s))) where
        turned : Turned (own_points t) t y s agreed k left v
        turned = turned_both (own_points t) t y s agreed k met left v got (size_32 t low) opening_below.0 el

        counted : card 32 left ≡ card (size t) left
        counted =
            card_32 t left low
            (subst (λ (m : ℕ). m < 2 ^ size t) (sym turned.members)
            (set_of-lt (size t) (λ i. has agreed i && eqb (value turned.f (get_or (own_points t) i 0)) (y i k))))

        compared : b ≡ ltb (card (size t) left) (need t (card (size t) s))
        compared = eb ∙ ap₂ (λ (a c : ℕ). ltb a (need t c)) counted (card_32 t s low dec.below)

        pub opening_few : b ≡ true → (x : ℕ) {answer : Opened} → answer ≡ unopened (length (set secret k x)) s 16 → answer ≡ answered
        opening_few few x {answer} =
            nothing (own_points t) t d y s
            (going_few (own_points t) (own_distinct t low) t (length_own t) d y s agreed secret k going more left v turned
            (ltb-true (card (size t) left) (need t (card (size t) s)) (sym compared ∙ few)))
            answer (length (set secret k x)) (length-set secret k x ∙ going.length_secret)

        pub opening_next : b ≡ false → {x : ℕ} → x ≡ v → Opening left (set secret k x) (k + 1)
        opening_next many {x} =
            going_next (own_points t) (own_distinct t low) t (length_own t) d y s agreed secret k going more left v turned
            (ltb-false (card (size t) left) (need t (card (size t) s)) (sym compared ∙ many)) x
