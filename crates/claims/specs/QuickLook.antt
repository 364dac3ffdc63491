-- The quick look (document 02, W-206): the rule of the table at all its places; that words pass exactly if they lie on a polynomial of degree at
-- most t; and what that says of an opening. Proved in proofs/QuickLook.antt.
use Rattle.std.specs.Prelude.{ℕ, ◌<◌, ◌≡◌, true, false, [], ◌∷◌, length, get_or}
use Rattle.lists.specs.Tabulate.{all}
use Rattle.field.specs.Field.{is_field_word}
use Rattle.members.specs.Members.{is_threshold, size, own_points, first_of}
use Rattle.decoding.specs.Decoding.{find}
use Rattle.reconstruction.specs.Reconstruction.{Opened, unopened, opened_from}
use Rattle.parity.specs.Examples.{words_of, squares, cubes}
use Rattle.parity.specs.Parity.{IsWeight, weight, weights, place, parity, balanced, Lies}

-- the table has 255 words; at the place of each member of each station stands its weight, which is the one word that meets the rule
pub record TableRule : Type 0 where
  pub many : length weights ≡ 255
  pub stands : (t i : ℕ) → is_threshold t ≡ true → i < size t → get_or weights (place t i) 0 ≡ weight (size t) i
  pub each : (t i : ℕ) → is_threshold t ≡ true → i < size t → IsWeight (size t) i (get_or weights (place t i) 0)
  pub only : (t i w : ℕ) → is_threshold t ≡ true → i < size t → IsWeight (size t) i w → w ≡ get_or weights (place t i) 0

-- any n field words y: all t sums are 0 if and only if they lie on a polynomial of degree at most t
unfoldable pub QuickLook : Type 0
QuickLook =
    (t : ℕ) (y : ℕ → ℕ) → is_threshold t ≡ true → ((i : ℕ) → i < size t → is_field_word (y i) ≡ true)
    → (Lies t y → balanced t y ≡ true) × (balanced t y ≡ true → Lies t y)

-- where all n members survive, with field words: all of them agree if and only if every word passes
unfoldable pub AllAgree : Type 0
AllAgree =
    (t d : ℕ) (y : ℕ → ℕ → ℕ) → is_threshold t ≡ true → ((i k : ℕ) → i < size t → k < d → is_field_word (y i k) ≡ true)
    → let everybody : ℕ = first_of (size t) in
    let answer : Opened = opened_from (own_points t) t d y everybody (find (own_points t) t d y everybody) in
    (all d (λ k. balanced t (λ i. y i k)) ≡ true → answer.agreeing ≡ everybody)
    × (answer.agreeing ≡ everybody → all d (λ k. balanced t (λ i. y i k)) ≡ true)

pub record LookInstances : Type 0 where
  -- t = 2: squares of 1 to 5 lie on a polynomial of degree 2, and pass
  pub squares_lie : Lies 2 (words_of squares)
  pub squares_pass : balanced 2 (words_of squares) ≡ true
  -- cubes do not, and only the last sum tells: the sums up to t − 2 are not enough
  pub cubes_do_not : ¬ Lies 2 (words_of cubes)
  pub cubes_first : parity 5 0 (words_of cubes) ≡ 0
  pub cubes_fail : balanced 2 (words_of cubes) ≡ false
  -- 65521 is no field word, passes as 0 would, and lies on nothing: that the words are field words is needed
  pub above_p_passes : balanced 1 (words_of (65521 ∷ 0 ∷ 0 ∷ [])) ≡ true
  pub above_p_does_not : ¬ Lies 1 (words_of (65521 ∷ 0 ∷ 0 ∷ []))
  -- and with it not all agree, though the word passes: nobody does, it is refused
  pub above_p_refused :
      opened_from (own_points 1) 1 1 (λ i k. words_of (65521 ∷ 0 ∷ 0 ∷ []) i) 7 (find (own_points 1) 1 1 (λ i k. words_of (65521 ∷ 0 ∷ 0 ∷ []) i) 7)
      ≡ unopened 1 7 16
