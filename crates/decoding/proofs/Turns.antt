-- The loops over the members: how a count grows, and what is gathered.
-- Assumes nothing.
use Rattle.std.proofs.Common.{◌≡◌, ℕ, suc, ◌+◌, ◌-◌, ◌≤◌, ◌<◌, Bool, true, false, cond, ◌&&◌, List}
use Rattle.std.proofs.Common.{[], ◌∷◌, ◌++◌, map, length, take, get_or, refl, sym, ap, ◌∙◌, zero-le, add-one, arith}
use mathlib.Core.Bool.{and-true}
use mathlib.Core.List.{map-append, append-nil}
use native.Mathlib.Nat.{le_of_eq}
use lib.Dec.{eqb}
use lib.ListN.{set as store, length-set, length-append}
use lib.Seq.{take-suc-set, take_at, take_all}
use Rattle.lists.specs.Tabulate.{tab, all, count, keep}
use Rattle.lists.proofs.Count.{to_ℕ, count_ext, count_last}
use Rattle.polynomial.specs.Polynomial.{value}
use Rattle.members.specs.Members.{size, has}
use Rattle.members.proofs.Listed.{passing, length_passing, passing_more, passing_prefix}
use Rattle.decoding.specs.Internal.Candidate.{sound, chosen, AtHand}
use Rattle.decoding.specs.declared.Word.{Word}
use Rattle.decoding.specs.Internal.Words.{meets_at, meeting}
use Rattle.decoding.proofs.Unique.{agrees, card-agreeing}

-- ---- a count grows by a number that passes the test, and not by one that fails it

counted_last : (p : ℕ → Bool) (i : ℕ) (b : Bool) → p i ≡ b → count (i + 1) p ≡ count i p + to_ℕ b
counted_last p i b e = ap (λ (k : ℕ). count k p) (add-one i) ∙ count_last i p ∙ ap (λ (c : Bool). count i p + to_ℕ c) e

pub counted_in : (p : ℕ → Bool) (m i : ℕ) → p i ≡ true → m ≡ count i p → m + 1 ≡ count (i + 1) p
counted_in p m i e h = omega (arith, counted_last p i true e)

pub counted_out : (p : ℕ → Bool) (m i : ℕ) → p i ≡ false → m ≡ count i p → m ≡ count (i + 1) p
counted_out p m i e h = omega (arith, counted_last p i false e)

-- ---- how many members agree

all_one : (p : ℕ → Bool) → all 1 p ≡ p 0
unfolding all
all_one p = and-true (p 0)

pub card_meeting : (w : Word) (f : List ℕ) → count (size w.t) (meets_at w f) ≡ meeting w f
card_meeting w f =
    count_ext (size w.t) (meets_at w f) (agrees w.points.now 1 (λ j k. get_or w.values.now j 0) w.set (λ k. f))
    (λ i h. ap (λ (b : Bool). has w.set i && b) (sym (all_one (λ k. eqb (value f (get_or w.points.now i 0)) (get_or w.values.now i 0)))))
    ∙ sym (card-agreeing w.points.now w.t 1 (λ j k. get_or w.values.now j 0) w.set (λ k. f))

-- ---- what is gathered

-- what has been gathered from the members before i
pub record Gathering (xs : List ℕ) (t : ℕ) (values : List ℕ) (set : ℕ) (e points kept : List ℕ) (m i : ℕ) : Type 0 where
  pub inside : i ≤ size t
  pub counted : m ≡ count i (sound xs set e)
  pub at_most : m ≤ suc t
  pub long_points : length points ≡ 16
  pub long_kept : length kept ≡ suc t
  pub points_are : take m points ≡ map (λ k. get_or xs k 0) (passing i (sound xs set e))
  pub kept_are : take m kept ≡ map (λ k. get_or values k 0) (passing i (sound xs set e))

-- the members that pass, with and without member i
passing_last : (f : ℕ → ℕ) (p : ℕ → Bool) (i : ℕ) (b : Bool) → p i ≡ b → map f (passing (i + 1) p) ≡ map f (passing i p) ++ map f (cond b (i ∷ []) [])
passing_last f p i b e =
    ap (λ (k : ℕ). map f (passing k p)) (add-one i)
    ∙ ap (map f) (passing_more i p ∙ ap (λ (c : Bool). passing i p ++ cond c (i ∷ []) []) e)
    ∙ map-append f (passing i p) (cond b (i ∷ []) [])

stored : (f : ℕ → ℕ) (p : ℕ → Bool) (l : List ℕ) (m i : ℕ) → m < length l → p i ≡ true → take m l ≡ map f (passing i p)
    → take (m + 1) (store l m (f i)) ≡ map f (passing (i + 1) p)
stored f p l m i h e t =
    ap (λ (k : ℕ). take k (store l m (f i))) (add-one m)
    ∙ take-suc-set l m (f i) h
    ∙ ap (λ (u : List ℕ). u ++ (f i ∷ [])) t
    ∙ sym (passing_last f p i true e)

kept_out : (f : ℕ → ℕ) (p : ℕ → Bool) (l : List ℕ) (m i : ℕ) → p i ≡ false → take m l ≡ map f (passing i p) → take m l ≡ map f (passing (i + 1) p)
kept_out f p l m i e t = t ∙ sym (append-nil (map f (passing i p))) ∙ sym (passing_last f p i false e)

module _ (xs : List ℕ) (t : ℕ) (values : List ℕ) (set : ℕ) (e points kept : List ℕ) where
  pub gathering_first : length points ≡ 16 → length kept ≡ suc t → Gathering xs t values set e points kept 0 0
  unfolding passing tab keep count
  gathering_first hp hk =
      record { inside = zero-le; counted = refl; at_most = zero-le; long_points = hp; long_kept = hk; points_are = refl; kept_are = refl }

  module _ {m i : ℕ} (g : Gathering xs t values set e points kept m i) (h : i < size t) where
    -- member i passes, and there is room for it
    pub gathering_in : t ≤ 15 → m ≤ t → sound xs set e i ≡ true
        → Gathering xs t values set e (store points m (get_or xs i 0)) (store kept m (get_or values i 0)) (m + 1) (i + 1)
    gathering_in small l q =
        let p : ℕ → Bool = sound xs set e in
        record {
          inside = omega arith;
          counted = counted_in p m i q g.counted;
          at_most = omega arith;
          long_points = length-set points m (get_or xs i 0) ∙ g.long_points;
          long_kept = length-set kept m (get_or values i 0) ∙ g.long_kept;
          points_are = stored (λ k. get_or xs k 0) p points m i (omega (arith, g.long_points)) q g.points_are;
          kept_are = stored (λ k. get_or values k 0) p kept m i (omega (arith, g.long_kept)) q g.kept_are;
        }

    -- it fails
    pub gathering_out : sound xs set e i ≡ false → Gathering xs t values set e points kept m (i + 1)
    gathering_out q =
        let p : ℕ → Bool = sound xs set e in
        record {
          inside = omega arith;
          counted = counted_out p m i q g.counted;
          at_most = g.at_most;
          long_points = g.long_points;
          long_kept = g.long_kept;
          points_are = kept_out (λ k. get_or xs k 0) p points m i q g.points_are;
          kept_are = kept_out (λ k. get_or values k 0) p kept m i q g.kept_are;
        }

-- those of the first i, where t + 1 of these have passed, are the first t + 1 of all
module _ (n : ℕ) (p : ℕ → Bool) (i k : ℕ) (inside : i ≤ n) (many : count i p ≡ k) where
  whole : (rest : List ℕ) × (passing n p ≡ passing i p ++ rest)
  whole =
      let r = passing_prefix (n - i) i p in
      let e : n ≡ n - i + i = omega arith in
      (r.0, ap (λ (j : ℕ). passing j p) e ∙ r.1)

  long : length (passing i p) ≡ k
  long = length_passing i p ∙ many

  first-ones : passing i p ≡ take k (passing n p)
  first-ones = sym (ap (take k) whole.1 ∙ take_at (passing i p) whole.0 k long)

  many_of : k ≤ count n p
  many_of =
      let e : length (passing n p) ≡ length (passing i p) + length whole.0 = ap length whole.1 ∙ length-append (passing i p) whole.0 in
      omega (arith, e, long, length_passing n p)

module _ (w : Word) (e points kept : List ℕ) {m i : ℕ} (g : Gathering w.points.now w.t w.values.now w.set e points kept m i) where
  -- t + 1 are at hand
  pub gathered_full : w.t < m → AtHand w e points kept
  unfolding chosen passing
  gathered_full l =
      let p : ℕ → Bool = sound w.points.now w.set e in
      let full : m ≡ suc w.t = omega (arith, g.at_most) in
      let many : count i p ≡ suc w.t = sym g.counted ∙ full in
      let ones : passing i p ≡ chosen w.points.now w.t w.set e = first-ones (size w.t) p i (suc w.t) g.inside many in
      record {
        enough = many_of (size w.t) p i (suc w.t) g.inside many;
        points_are = ap (λ (k : ℕ). take k points) (sym full) ∙ g.points_are ∙ ap (map (λ k. get_or w.points.now k 0)) ones;
        values_are = sym (take_all m kept (le_of_eq (g.long_kept ∙ sym full))) ∙ g.kept_are ∙ ap (map (λ k. get_or w.values.now k 0)) ones;
      }

  -- all members are seen, and there are not so many
  pub gathered_all : size w.t ≤ i → m ≤ w.t → count (size w.t) (sound w.points.now w.set e) < suc w.t
  gathered_all h l =
      let all_n : i ≡ size w.t = omega (arith, g.inside) in
      omega (arith, g.counted, ap (λ (j : ℕ). count j (sound w.points.now w.set e)) all_n)
