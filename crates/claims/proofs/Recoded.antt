-- Random words for another secret of equal length that leave the shares of t members, and the key words, as they are: there are some, and there are no
-- others, since a polynomial of degree at most t is fixed by its value at 0 and its values at t other points. For any points that are distinct and not 0, both
-- modulo p.
-- Assumes nothing.
use mathlib.Core.Path.{◌≡◌, sym, ap, ap₂, ◌∙◌, subst}
use mathlib.Core.Bool.{true}
use mathlib.Core.List.{List, ◌∷◌, ◌++◌, map}
use Prim.Native.Nat.{ℕ, suc, ◌+◌, ◌*◌, ◌<◌}
use native.Mathlib.Nat.{mul_comm}
use native.Mathlib.Omega.{arith}
use lib.ListN.{length, get_or, drop, length-append, length-map, length-drop}
use lib.Seq.{drop_at}
use Rattle.lists.specs.Tabulate.{tab, concat}
use Rattle.lists.proofs.Blocks.{length-concat, block_at, every_append, every_concat}
use Rattle.lists.proofs.Choose.{every_sub, drop-sub}
use Rattle.lists.proofs.Every.{Every, more, every_at}
use Rattle.lists.proofs.Tabulate.{tab_ext}
use Rattle.field.specs.Field.{prime}
use Rattle.field.proofs.Congruence.{◌≈◌, same_trans}
use Rattle.polynomial.specs.Polynomial.{value, interpolate}
use Rattle.polynomial.proofs.Evaluation.{value_same, value-eq, eval-eq}
use Rattle.polynomial.proofs.Interpolation.{Meets, meets_more, meets, meets_every, starts_with, length-interpolate, interpolate_words}
use Rattle.polynomial.proofs.Roots.{Distinct, distinct_more, agree_equal}
use Rattle.members.specs.Members.{size, has, card}
use Rattle.members.proofs.Listed.{passing, passing_at}
use Rattle.locator.proofs.Points.{points_of, passing_points, count_points, at_points}
use Rattle.dealing.specs.Dealing.{random_length, polynomial, dealt_words, dealt_share}
use Rattle.dealing.proofs.Laws.{polynomial-zero, polynomial-length, polynomial_words}
use Rattle.dealing.proofs.SameKeys.{share_is_same, same_random}
use Rattle.claims.specs.Secrecy.{key_words}

-- all of them are field words
abbrev pub Words : List ℕ → Type 0
Words l = Every (λ w. w < prime) l

-- t members, at points that are distinct and not 0 modulo p
pub record Holders (xs : List ℕ) (t members : ℕ) : Type 0 where
  pub long : length xs ≡ size t
  pub distinct : Distinct xs
  pub nonzero : (i : ℕ) → i < size t → get_or xs i 0 ≈ 0 → ⊥
  pub many : card (size t) members ≡ t

-- the random words of a dealing, and another secret
pub record Other (t : ℕ) (secret other random : List ℕ) : Type 0 where
  pub as_long : length other ≡ length secret
  pub words : Words other
  pub random_words : Words random
  pub random_long : length random ≡ random_length t (length secret)

-- the members of the set, and their points
abbrev listed : ℕ → ℕ → List ℕ
listed t members = passing (size t) (has members)

abbrev points : List ℕ → ℕ → ℕ → List ℕ
points xs t members = points_of xs (listed t members)

-- the polynomial through word k of the other secret at 0 and the dealt values at the members' points
fitted : List ℕ → ℕ → ℕ → List ℕ → List ℕ → List ℕ → ℕ → List ℕ
fitted xs t members secret other random k =
    interpolate (0 ∷ points xs t members) (get_or other k 0 ∷ map (λ i. value (polynomial t secret random k) (get_or xs i 0)) (listed t members))

-- the random words for the other secret: the coefficients of these polynomials, and the same key words
pub recoded : List ℕ → ℕ → ℕ → List ℕ → List ℕ → List ℕ → List ℕ
recoded xs t members secret other random =
    concat (tab (length other) (λ k. drop 1 (fitted xs t members secret other random k))) ++ key_words t (length other) random

module _ {xs : List ℕ} {t members : ℕ} (H : Holders xs t members) where
  -- 0 and the members' points are t + 1 distinct points
  apart : Distinct (0 ∷ points xs t members)
  apart =
      distinct_more (at_points xs (size t) H.long H.distinct (has members) (λ i h e. H.nonzero i h))
      (passing_points xs (size t) H.long H.distinct (has members))

  how_many : length (points xs t members) ≡ t
  unfolding card
  how_many = count_points xs (size t) H.long H.distinct (has members) ∙ H.many

  -- There are no others: random words that give the members the same values of one secret are the same, if their key words are.

  module _ {secret : List ℕ} (small : Words secret) where
    pub no_others : {a b : List ℕ} → Words a → Words b → length a ≡ random_length t (length secret) → length b ≡ random_length t (length secret)
        → key_words t (length secret) a ≡ key_words t (length secret) b
        → ((i k : ℕ) → i < size t → has members i ≡ true → k < length secret
        → value (polynomial t secret a k) (get_or xs i 0) ≡ value (polynomial t secret b k) (get_or xs i 0))
        → a ≡ b
    no_others {a} {b} wa wb la lb keys same =
        same_random t secret a b
        (λ k h.
        let f : List ℕ = polynomial t secret a k in
        let g : List ℕ = polynomial t secret b k in
        let zero : value f 0 ≡ value g 0 =
        polynomial-zero t secret a k (every_at small k 0 h) ∙ sym (polynomial-zero t secret b k (every_at small k 0 h)) in
        agree_equal f g (0 ∷ points xs t members) (polynomial-length t secret a la k h ∙ sym (ap suc how_many))
        (polynomial-length t secret b lb k h ∙ sym (ap suc how_many)) (polynomial_words t small wa k h) (polynomial_words t small wb k h) apart
        (more (eval-eq f g 0 0 zero)
        (at_points xs (size t) H.long H.distinct (has members) (λ i l e. eval-eq f g (get_or xs i 0) (get_or xs i 0) (same i k l e h)))))
        keys

  -- There are some.

  module _ {secret other random : List ℕ} (c : Other t secret other random) where
    abbrev seen : ℕ → ℕ → ℕ
    seen k i = value (polynomial t secret random k) (get_or xs i 0)

    abbrev fitted_at : ℕ → List ℕ
    fitted_at k = fitted xs t members secret other random k

    abbrev new : List ℕ
    new = recoded xs t members secret other random

    as_many : (k : ℕ) → length (get_or other k 0 ∷ map (seen k) (listed t members)) ≡ length (0 ∷ points xs t members)
    as_many k = ap suc (length-map (listed t members) (seen k) ∙ sym (length-map (listed t members) (λ i. get_or xs i 0)))

    fitted_long : (k : ℕ) → length (fitted_at k) ≡ suc t
    unfolding fitted
    fitted_long k = length-interpolate (0 ∷ points xs t members) (get_or other k 0 ∷ map (seen k) (listed t members)) (as_many k) ∙ ap suc how_many

    fitted_words : (k : ℕ) → Words (fitted_at k)
    unfolding fitted
    fitted_words k = interpolate_words (0 ∷ points xs t members) (get_or other k 0 ∷ map (seen k) (listed t members))

    fitted_meets : (k : ℕ) → Meets (fitted_at k) (0 ∷ points xs t members) (get_or other k 0 ∷ map (seen k) (listed t members))
    unfolding fitted
    fitted_meets k = meets (0 ∷ points xs t members) (get_or other k 0 ∷ map (seen k) (listed t members)) (as_many k) apart

    fitted_starts : (k : ℕ) → k < length other → fitted_at k ≡ get_or other k 0 ∷ drop 1 (fitted_at k)
    fitted_starts k h =
        elim (fitted_meets k) [
          | meets_more z m ↦ starts_with (get_or other k 0) (fitted_at k) (every_at c.words k 0 h) (omega (arith, fitted_long k)) (fitted_words k) z
        ]

    fitted-value : (i k : ℕ) → i < size t → has members i ≡ true → value (fitted_at k) (get_or xs i 0) ≡ seen k i
    fitted-value i k h e =
        elim (fitted_meets k) [
          | meets_more z m ↦
              value-eq (fitted_at k) (polynomial t secret random k) (get_or xs i 0) (get_or xs i 0)
              (same_trans (passing_at (size t) (has members) (meets_every (fitted_at k) (λ i. get_or xs i 0) (seen k) (listed t members) m) i h e)
              (value_same (polynomial t secret random k) (get_or xs i 0)))
        ]

    coefficients : List ℕ
    coefficients = concat (tab (length other) (λ k. drop 1 (fitted_at k)))

    block_long : (k : ℕ) → k < length other → length (drop 1 (fitted_at k)) ≡ t
    block_long k h = length-drop 1 (fitted_at k) ∙ omega (arith, fitted_long k)

    coefficients_long : length coefficients ≡ t * length other
    unfolding coefficients
    coefficients_long = length-concat (length other) t (λ k. drop 1 (fitted_at k)) block_long ∙ mul_comm (length other) t

    pub same_keys : key_words t (length other) new ≡ key_words t (length other) random
    unfolding recoded coefficients
    same_keys = drop_at coefficients (key_words t (length other) random) (t * length other) coefficients_long

    pub recoded_long : length new ≡ random_length t (length other)
    unfolding recoded coefficients random_length
    recoded_long =
        length-append coefficients (key_words t (length other) random)
        ∙ ap₂ ◌+◌ coefficients_long (length-drop (t * length other) random)
        ∙ omega (arith, c.random_long ∙ ap (random_length t) (sym c.as_long))

    pub recoded_words : Words new
    unfolding recoded
    recoded_words =
        every_append (every_concat (length other) (λ k. drop 1 (fitted_at k)) (λ k h. every_sub (drop-sub 1 (fitted_at k)) (fitted_words k)))
        (every_sub (drop-sub (t * length other) random) c.random_words)

    recoded_polynomial : (k : ℕ) → k < length other → polynomial t other new k ≡ fitted_at k
    unfolding polynomial recoded
    recoded_polynomial k h =
        ap (λ (cs : List ℕ). get_or other k 0 ∷ cs)
        (block_at (length other) t (λ k. drop 1 (fitted_at k)) (key_words t (length other) random) block_long k h)
        ∙ sym (fitted_starts k h)

    -- the members have the same values of both secrets, and so the same shares
    same_value : (i k : ℕ) → i < size t → has members i ≡ true → k < length other → value (polynomial t other new k) (get_or xs i 0) ≡ seen k i
    same_value i k h e l = ap (λ (f : List ℕ). value f (get_or xs i 0)) (recoded_polynomial k l) ∙ fitted-value i k h e

    pub recoded_share : (day i : ℕ) → i < size t → has members i ≡ true → dealt_share xs t day other new i ≡ dealt_share xs t day secret random i
    unfolding dealt_words
    recoded_share day i h e =
        share_is_same t other secret new random c.as_long same_keys xs day i
        (tab_ext (length other) (λ k. value (polynomial t other new k) (get_or xs i 0)) (λ k. seen k i) (λ k l. same_value i k h e l)
        ∙ ap (λ (n : ℕ). tab n (λ k. seen k i)) c.as_long)

    -- the way back
    back : Words secret → Other t other secret new
    back small =
        record { as_long = sym c.as_long; words = small; random_words = recoded_words; random_long = recoded_long }

  -- recoded for the other secret and back, the random words are what they were
  pub returned : {secret other random : List ℕ} (small : Words secret) (c : Other t secret other random)
      → recoded xs t members other secret (recoded xs t members secret other random) ≡ random
  returned {secret} {other} {random} small c =
      let b : Other t other secret (recoded xs t members secret other random) = back c small in
      no_others small (recoded_words b) c.random_words (recoded_long b) c.random_long
      (same_keys b
      ∙ subst (λ (d : ℕ). key_words t d (recoded xs t members secret other random) ≡ key_words t d random) c.as_long (same_keys c))
      (λ i k h e l. same_value b i k h e l ∙ same_value c i k h e (subst (λ (d : ℕ). k < d) (sym c.as_long) l))
