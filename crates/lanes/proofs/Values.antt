-- Laws of the lanes' values: one word more in front, eight words more, and the words in eights.
-- Assumes nothing.
use Rattle.std.proofs.Common.{◌≡◌, ℕ, zero, suc, ◌+◌, ◌-◌, ◌*◌, ◌/◌, ◌<◌, ◌≤◌, List, [], ◌∷◌, ◌++◌, length, get_or, take, drop, replicate, map, reverse, refl, sym, ap, ◌∙◌, zero-add, add-one, append_assoc, arith}
use Rattle.std.specs.Simd.{first_chunks}
use Rattle.std.proofs.lemmas.List.{take-append-drop, drop-drop, length-take-le, length-drop, map-append, reverse-append, length-reverse, get_or-reverse}
use Rattle.lists.specs.Tabulate.{tab, sum_to, concat}
use Rattle.lists.proofs.Sums.{sum_to_ext}
use Rattle.lists.proofs.Tabulate.{get_or-tab, tab_ext, tab-get_or}
use Rattle.field.specs.Field.{sum, product}
use Rattle.field.proofs.Congruence.{◌≈◌, same_refl, same_sym, same_trans, same_eq, ◌⊕◌, ◌⊗◌}
use Rattle.field.proofs.Operations.{product_same}
use Rattle.polynomial.specs.Polynomial.{eval, value}
use Rattle.polynomial.proofs.Evaluation.{value_same, value-cons}
use Rattle.lanes.specs.Internal.Lanes.{nth_power, eight_before}

-- the words' values at the points
abbrev pub values_at : List ℕ → List ℕ → List ℕ
values_at words points = tab 32 (λ j. value words (get_or points j 0))

-- the points' powers m + 1
abbrev pub row_of : List ℕ → ℕ → List ℕ
row_of points m = tab 32 (λ j. nth_power (get_or points j 0) m)

pub first_row : (points : List ℕ) → length points ≡ 32 → points ≡ row_of points 0
unfolding nth_power
first_row points h = sym (ap (λ (n : ℕ). tab n (λ j. get_or points j 0)) (sym h) ∙ tab-get_or points 0)

pub next_row : (points before after : List ℕ) (m : ℕ) → before ≡ row_of points m → after ≡ tab 32 (λ j. product (get_or before j 0) (get_or points j 0))
    → after ≡ row_of points (m + 1)
unfolding nth_power
next_row points before after m e h =
    h
    ∙ tab_ext 32 (λ j. product (get_or before j 0) (get_or points j 0)) (λ j. nth_power (get_or points j 0) (m + 1))
    (λ j b.
    ap (λ (v : ℕ). product v (get_or points j 0)) (ap (λ (l : List ℕ). get_or l j 0) e ∙ get_or-tab 32 (λ k. nth_power (get_or points k 0) m) j 0 b)
    ∙ ap (nth_power (get_or points j 0)) (sym (add-one m)))

pub values_none : (points : List ℕ) → replicate 32 0 ≡ values_at [] points
unfolding tab value eval
values_none points = refl

-- one word in front
pub values_one : (word : ℕ) (words points before after : List ℕ) → before ≡ values_at words points
    → after ≡ tab 32 (λ j. sum word (product (get_or points j 0) (get_or before j 0))) → after ≡ values_at (word ∷ words) points
values_one word words points before after e h =
    h
    ∙ tab_ext 32 (λ j. sum word (product (get_or points j 0) (get_or before j 0))) (λ j. value (word ∷ words) (get_or points j 0))
    (λ j b.
    ap (λ (v : ℕ). sum word (product (get_or points j 0) v)) (ap (λ (l : List ℕ). get_or l j 0) e ∙ get_or-tab 32 (λ k. value words (get_or points k 0)) j 0 b)
    ∙ sym (value-cons word words (get_or points j 0)))

-- words in front of others, each times the next power q of a point
pub horner : (ws rest : List ℕ) (x e : ℕ) (q : ℕ → ℕ) → ((m : ℕ) → m < length ws → q (suc m) ≈ q m * x) → e ≈ eval rest x
    → q 0 * eval (ws ++ rest) x ≈ sum_to (length ws) (λ m. q m * get_or ws m 0) + q (length ws) * e
unfolding sum_to eval
horner [] rest x e q h s = same_trans (same_refl {a = q 0} ⊗ same_sym s) (same_eq (sym (zero-add (q 0 * e))))
horner (w ∷ ws) rest x e q h s =
    let later = eval (ws ++ rest) x in
    let total = sum_to (length ws) (λ m. q (suc m) * get_or ws m 0) in
    same_trans {b = q 0 * w + q 1 * later}
    (same_trans {b = q 0 * w + q 0 * x * later} (same_eq (omega arith)) (same_refl {a = q 0 * w} ⊕ (same_sym (h 0 (omega arith)) ⊗ same_refl {a = later})))
    (same_trans {b = q 0 * w + (total + q (suc (length ws)) * e)}
    (same_refl {a = q 0 * w} ⊕ horner ws rest x e (λ m. q (suc m)) (λ m b. h (suc m) (omega arith)) s)
    (same_eq (omega arith)))

power_next : (x : ℕ) (power : ℕ → ℕ) → ((m : ℕ) → m < 8 → power m ≡ nth_power x m) → (m : ℕ) → m < 7 → power (suc m) ≈ power m * x
unfolding nth_power
power_next x power h m b =
    same_trans (same_eq (h (suc m) (omega arith) ∙ ap (λ (v : ℕ). product v x) (sym (h m (omega arith))))) (product_same (power m) x)

-- eight words in front, times the powers 0 to 7
pub eight_value : (eight rest : List ℕ) (x e : ℕ) (power : ℕ → ℕ) → length eight ≡ 8 → ((m : ℕ) → m < 8 → power m ≡ nth_power x m) → e ≡ value rest x
    → eight_before eight power e ≡ value (eight ++ rest) x
unfolding eight_before eval nth_power value
eight_value [] rest x e power long h s = absurd (omega arith)
eight_value (w ∷ ws) rest x e power long h s =
    let seven : length ws ≡ 7 = omega arith in
    let f : ℕ → ℕ = λ m. power m * get_or ws m 0 in
    let later = horner ws rest x e power (λ m b. power_next x power h m (omega arith)) (same_trans (same_eq s) (value_same rest x)) in
    let own = sum_to_ext 7 (λ m. power m * get_or (w ∷ ws) (m + 1) 0) f (λ m b. ap (λ (k : ℕ). power m * get_or (w ∷ ws) k 0) (add-one m)) in
    let all = ap (λ (n : ℕ). sum_to n f + power n * e) (sym seven) in
    (same_trans {b = w + (sum_to (length ws) f + power (length ws) * e)} (same_eq (omega (arith, own, all)))
    (same_refl {a = w} ⊕ same_trans (same_sym later) (same_eq (ap (λ (v : ℕ). v * eval (ws ++ rest) x) (h 0 (omega arith)))))).same

-- eight words in front
pub values_eight : (eight words points : List ℕ) (rows : List (List ℕ)) (before after : List ℕ) → length eight ≡ 8
    → rows ≡ tab 8 (row_of points) → before ≡ values_at words points
    → after ≡ tab 32 (λ j. eight_before eight (λ m. get_or (get_or rows m []) j 0) (get_or before j 0)) → after ≡ values_at (eight ++ words) points
values_eight eight words points rows before after long er e h =
    h
    ∙ tab_ext 32 (λ j. eight_before eight (λ m. get_or (get_or rows m []) j 0) (get_or before j 0)) (λ j. value (eight ++ words) (get_or points j 0))
    (λ j b.
    eight_value eight words (get_or points j 0) (get_or before j 0) (λ m. get_or (get_or rows m []) j 0) long
    (λ m d.
    ap (λ (r : List (List ℕ)). get_or (get_or r m []) j 0) er
    ∙ ap (λ (r : List ℕ). get_or r j 0) (get_or-tab 8 (row_of points) m [] d)
    ∙ get_or-tab 32 (λ k. nth_power (get_or points k 0) m) j 0 b)
    (ap (λ (l : List ℕ). get_or l j 0) e ∙ get_or-tab 32 (λ k. value words (get_or points k 0)) j 0 b))

-- the eights, and what is left
pub eights_whole : (k : ℕ) (words : List ℕ) → concat (first_chunks 8 k words) ++ drop (k * 8) words ≡ words
unfolding concat
eights_whole zero words = refl
eights_whole (suc k) words =
    append_assoc (take 8 words) (concat (first_chunks 8 k (drop 8 words))) (drop (suc k * 8) words)
    ∙ ap (λ (l : List ℕ). take 8 words ++ l)
    (ap (λ (l : List ℕ). concat (first_chunks 8 k (drop 8 words)) ++ l) (ap (λ (n : ℕ). drop n words) {x = suc k * 8} {y = 8 + k * 8} (omega arith) ∙ sym (drop-drop (k * 8) 8 words))
    ∙ eights_whole k (drop 8 words))
    ∙ take-append-drop 8 words

pub eights_long : (k : ℕ) (words : List ℕ) (i : ℕ) (d : List ℕ) → k * 8 ≤ length words → i < k → length (get_or (first_chunks 8 k words) i d) ≡ 8
eights_long zero words i d h b = absurd (omega arith)
eights_long (suc k) words zero d h b = length-take-le 8 words (omega arith)
eights_long (suc k) words (suc i) d h b = eights_long k (drop 8 words) i d (omega (arith, length-drop 8 words)) (omega arith)

-- the same of the one at place i from the last one back
pub eight_long : (words : List ℕ) (eights : List (List ℕ)) (eight : List ℕ) (i : ℕ) → eights ≡ first_chunks 8 (length words / 8) words → length eights ≡ length words / 8
    → (i < length (reverse eights)) × (eight ≡ get_or (reverse eights) i eight) → length eight ≡ 8
eight_long words eights eight i e n t =
    let less : i < length eights = omega (arith, t.0, length-reverse eights) in
    ap length (t.1 ∙ get_or-reverse eights i eight less ∙ ap (λ (es : List (List ℕ)). get_or es (length eights - 1 - i) eight) e)
    ∙ eights_long (length words / 8) words (length eights - 1 - i) eight (omega arith) (omega arith)

-- what was gone over from the last one back, and one more
pub one_more : {A B : Type 0} (f : A → B) (xs : List A) (x : A) → reverse (map f (xs ++ (x ∷ []))) ≡ f x ∷ reverse (map f xs)
one_more f xs x = ap reverse (map-append f xs (x ∷ [])) ∙ reverse-append (map f xs) (f x ∷ [])
