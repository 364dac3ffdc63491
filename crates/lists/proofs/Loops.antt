-- Loops that go over a list and write each place: by the place i, the first i places are f 0, .., f (i − 1), and the others are as they were.
-- Assumes nothing.
use Rattle.std.proofs.Common.{◌≡◌, ℕ, zero, suc, Bool, true, false, ◌&&◌, ◌≤◌, ◌+◌, ◌<◌, List, [], ◌∷◌, ◌++◌, length, take, drop, refl, sym, ap, ap₂, ◌∙◌, arith}
use native.Mathlib.Nat.{add-zero, le_of_suc-le-suc}
use Rattle.std.proofs.Math.ListN.{set, get_or}
use Rattle.std.proofs.lemmas.List.{take_all, take-append-drop, drop_all, append-nil, drop-set-lt, get_or-drop}
use Rattle.std.proofs.lemmas.Grind.{take-set_at, drop_more_same}
use Rattle.lists.specs.Tabulate.{tab, each}
use Rattle.lists.proofs.Blocks.{tab_more}

module _ {A : Type 0} where
  pub tab_none : (f : ℕ → A) → tab 0 f ≡ []
  unfolding tab
  tab_none f = refl

  -- one place more
  pub written_next : (f : ℕ → A) (l : List A) (i n : ℕ) (w : A) → n ≡ i + 1 → i < length l → take i l ≡ tab i f → w ≡ f i → take n (set l i w) ≡ tab n f
  written_next f l i n w e h t q =
      take-set_at l i n w e h ∙ ap (λ (r : List A). r ++ (w ∷ [])) t ∙ ap (λ (a : A). tab i f ++ (a ∷ [])) q ∙ sym (tab_more i f) ∙ ap (λ (m : ℕ). tab m f) (omega arith)

  -- all of them
  pub written_last : (f : ℕ → A) (l : List A) (n i : ℕ) → length l ≡ n → n ≡ i → take i l ≡ tab i f → l ≡ tab n f
  written_last f l n i e h t = sym (take_all i l (omega arith)) ∙ t ∙ ap (λ (m : ℕ). tab m f) (sym h)

  -- a place that is still as it was
  pub read_kept : (l was : List A) (i : ℕ) (d : A) → drop i l ≡ drop i was → get_or l i d ≡ get_or was i d
  read_kept l was i d e =
      ap (λ (k : ℕ). get_or l k d) (sym (add-zero i)) ∙ sym (get_or-drop i l 0 d) ∙ ap (λ (r : List A). get_or r 0 d) e ∙ get_or-drop i was 0 d ∙ ap (λ (k : ℕ). get_or was k d) (add-zero i)

  -- the places after one that is written are as they were
  pub kept_next : (l was : List A) (i n : ℕ) (w : A) → n ≡ i + 1 → drop i l ≡ drop i was → drop n (set l i w) ≡ drop n was
  kept_next l was i n w e k =
      drop-set-lt n l i w (omega arith)
      ∙ ap (λ (m : ℕ). drop m l) e
      ∙ drop_more_same l was i k
      ∙ ap (λ (m : ℕ). drop m was) (sym e)

  -- all of them, of an array whose length is that of what it was
  pub rewritten_last : (f : ℕ → A) (l was : List A) (n i : ℕ) → length was ≡ n → n ≡ i → take i l ≡ tab i f → drop i l ≡ drop i was → l ≡ tab n f
  rewritten_last f l was n i e h t k =
      sym (take-append-drop i l)
      ∙ ap₂ (λ a b. a ++ b) t (k ∙ drop_all i was (omega arith))
      ∙ append-nil (tab i f)
      ∙ ap (λ (m : ℕ). tab m f) (sym h)

-- for a loop that writes f i at each place i
pub ruleset writes = (tab_none, written_next, written_last)

-- for a loop that writes at each place i what it works out from the word that stood there
pub ruleset rewrites = (tab_none, written_next, written_last, rewritten_last, read_kept, kept_next)

-- a loop that asks each element for a test, and keeps whether all have passed
module _ {A : Type 0} (p : A → Bool) where
  pub tested_none : true ≡ each p []
  unfolding each
  tested_none = refl

  -- one element more
  pub tested_next : (xs : List A) (i n : ℕ) (d : A) (r u : Bool) → n ≡ i + 1 → i < length xs → r ≡ each p (take i xs) → u ≡ p (get_or xs i d)
      → r && u ≡ each p (take n xs)
  unfolding each
  tested_next xs i n d r u e h t q =
      let one : suc i ≡ n = omega (arith, e) in
      ap (λ (b : Bool). b && u) t ∙ ap (λ (b : Bool). each p (take i xs) && b) q ∙ sym (step xs i h) ∙ ap (λ (m : ℕ). each p (take m xs)) one
    where
      first : (b : Bool) → b && true ≡ b
      first true = refl
      first false = refl

      after : (a b c : Bool) {e : Bool} → e ≡ b && c → a && e ≡ (a && b) && c
      after true b c h = h
      after false b c h = refl

      step : (l : List A) (k : ℕ) → k < length l → each p (take (suc k) l) ≡ each p (take k l) && p (get_or l k d)
      step [] k less = absurd (omega arith)
      step (x ∷ l) zero less = first (p x)
      step (x ∷ l) (suc k) less = after (p x) (each p (take k l)) (p (get_or l k d)) (step l k (le_of_suc-le-suc less))

  -- all of them
  pub tested_last : (xs : List A) (i : ℕ) (r : Bool) → length xs ≤ i → r ≡ each p (take i xs) → r ≡ each p xs
  tested_last xs i r h t = t ∙ ap (each p) (take_all i xs h)

pub ruleset tests = (tested_none, tested_next, tested_last)
