-- Slopes and factors X − x, made in place by loops.
-- Assumes nothing.
use mathlib.Core.Path.{◌≡◌, refl, sym, ap, ap₂, ◌∙◌}
use mathlib.Core.List.{List, ◌∷◌, ◌++◌, append-nil}
use Prim.Native.Nat.{ℕ, suc, ◌+◌, ◌-◌, ◌*◌, ◌%◌, ◌≤◌, ◌<◌}
use native.Mathlib.Nat.{add-zero}
use native.Mathlib.Omega.{arith}
use lib.ListN.{length, get_or, take, drop, set, length-set, drop_of_length-le}
use lib.Seq.{set_split, take_all}
use Rattle.lists.proofs.InPlace.{done_set, left-set, read_set, left-cons}
use Rattle.field.specs.Field.{prime, sum, difference, product, inverse}
use Rattle.field.proofs.Congruence.{◌≈◌, same_refl, same_sym, same_trans, eq_same, reduced, ◌⊕◌, ◌⊗◌}
use Rattle.field.proofs.Operations.{mod-word, once}
use Rattle.polynomial.specs.Internal.Newton.{slopes_from, linear_from}
use Rattle.polynomial.specs.Polynomial.{slopes, linear}

-- what is done, and then the slopes of what is left
pub record Sloped (x y : ℕ) (points : List ℕ) (n : ℕ) (whole values : List ℕ) (j : ℕ) : Type 0 where
  pub inside : j ≤ length values
  pub long : length values ≡ length points
  pub kept : length values ≡ n
  pub so_far : take j values ++ slopes x y (drop j points) (drop j values) ≡ whole

pub slopes_first : (points values : List ℕ) (i : ℕ) → i < length points → length values ≡ length points
    → Sloped (get_or points i 0) (get_or values i 0) points (length values) (slopes_from points values i) values (i + 1)
unfolding slopes_from
slopes_first points values i h e = record { inside = omega arith; long = e; kept = refl; so_far = refl }

pub slopes_next : (x y : ℕ) (points : List ℕ) (n : ℕ) (whole values : List ℕ) (j rise run w : ℕ) → j < length values → Sloped x y points n whole values j
    → rise ≡ difference (get_or values j 0) y → run ≡ inverse (difference (get_or points j 0) x) → w ≡ product rise run
    → Sloped x y points n whole (set values j w) (j + 1)
unfolding slopes
slopes_next x y points n whole values j rise run w h t er en ew =
    record {
      inside = simp length-set (omega arith);
      long = length-set values j w ∙ t.long;
      kept = length-set values j w ∙ t.kept;
      so_far =
          done_set values j w h (slopes x y (drop (j + 1) points) (drop (j + 1) (set values j w)))
          ∙ ap₂ (λ (a : ℕ) (l : List ℕ). take j values ++ a ∷ slopes x y (drop (j + 1) points) l)
          (ew ∙ ap₂ product er en) (left-set values j w h (j + 1) (omega arith))
          ∙ ap₂ (λ (p v : List ℕ). take j values ++ slopes x y p v) (sym (left-cons points j 0 (omega (arith, t.long)))) (sym (left-cons values j 0 h))
          ∙ t.so_far;
    }

pub slopes_last : (x y : ℕ) (points : List ℕ) (n : ℕ) (whole values : List ℕ) (j : ℕ) → length values ≤ j → Sloped x y points n whole values j → values ≡ whole
unfolding slopes
slopes_last x y points n whole values j h t =
    sym
    (ap₂ (λ (a p : List ℕ). a ++ slopes x y p (drop j values)) (take_all j values h) (drop_of_length-le points {i = j} (omega (arith, t.long)))
    ∙ append-nil values)
    ∙ t.so_far

-- what is done, and then the factor times what is left
pub record Multiplied (x n : ℕ) (whole words : List ℕ) (j : ℕ) : Type 0 where
  pub inside : j < length words
  pub kept : length words ≡ n
  pub so_far : take j words ++ linear x (get_or words j 0) (drop (j + 1) words) ≡ whole

pub linear_first : (x : ℕ) (words : List ℕ) (i : ℕ) → i < length words → Multiplied x (length words) (linear_from x words i) words i
unfolding linear_from
linear_first x words i h = record { inside = h; kept = refl; so_far = refl }

-- the code's step is the definition's
step : (c x f : ℕ) → sum c (product (difference 0 x) f) ≡ (c + (prime - x % prime) * f) % prime
unfolding difference
step c x f =
    sym (once c (difference 0 x) f)
    ∙ eq_same (mod-word (c + difference 0 x * f)) (mod-word (c + (prime - x % prime) * f))
    (same_trans (reduced (c + difference 0 x * f))
    (same_trans (same_refl ⊕ (minus x ⊗ same_refl)) (same_sym (reduced (c + (prime - x % prime) * f)))))
  where
    minus : (x : ℕ) → (0 + (prime - x % prime)) % prime ≈ prime - x % prime
    minus x = omega arith

pub linear_next : (x n : ℕ) (whole words : List ℕ) (j minus w : ℕ) → j < n - 1 → Multiplied x n whole words j → minus ≡ difference 0 x
    → w ≡ sum (get_or words j 0) (product minus (get_or words (j + 1) 0)) → Multiplied x n whole (set words j w) (j + 1)
unfolding linear
linear_next x n whole words j minus w h t em ew =
    let c : ℕ = get_or words j 0 in
    let f : ℕ = get_or words (j + 1) 0 in
    record {
      inside = simp length-set (omega arith);
      kept = length-set words j w ∙ t.kept;
      so_far =
          done_set words j w t.inside (linear x (get_or (set words j w) (j + 1) 0) (drop (j + 1 + 1) (set words j w)))
          ∙ ap₂ (λ (a : ℕ) (l : List ℕ). take j words ++ w ∷ linear x a l)
          (read_set words j w t.inside (j + 1) 0 (omega arith)) (left-set words j w t.inside (j + 1 + 1) (omega arith))
          ∙ ap (λ (a : ℕ). take j words ++ a ∷ linear x f (drop (j + 1 + 1) words)) (ew ∙ ap (λ (m : ℕ). sum c (product m f)) em ∙ step c x f)
          ∙ ap (λ (l : List ℕ). take j words ++ linear x c l) (sym (left-cons words (j + 1) 0 (omega (arith, t.kept))))
          ∙ t.so_far;
    }

end : (x n : ℕ) (whole words : List ℕ) (j w : ℕ) → length words ≤ j + 1 → Multiplied x n whole words j → w ≡ sum (get_or words j 0) 0 → set words j w ≡ whole
unfolding linear sum
end x n whole words j w h t ew =
    set_split words j w t.inside
    ∙ ap₂ (λ (a : ℕ) (l : List ℕ). take j words ++ a ∷ l) (ew ∙ ap (λ (m : ℕ). m % prime) (add-zero (get_or words j 0)))
    (drop_of_length-le words {i = suc j} (omega arith))
    ∙ ap (λ (l : List ℕ). take j words ++ linear x (get_or words j 0) l) (sym (drop_of_length-le words h))
    ∙ t.so_far

pub linear_last : (x n : ℕ) (whole words : List ℕ) (j w : ℕ) → n - 1 ≤ j → Multiplied x n whole words j → w ≡ sum (get_or words (n - 1) 0) 0 → set words (n - 1) w ≡ whole
linear_last x n whole words j w h t ew =
    let e : n - 1 ≡ j = omega (arith, t.kept, t.inside) in rw e (end x n whole words j w (omega (arith, t.kept)) t (rw e at ew))
