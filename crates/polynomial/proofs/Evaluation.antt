-- Laws of evaluation: modulo p, of one more coefficient, of (X − x) times a polynomial, of linear combinations.
-- Assumes nothing.
use mathlib.Core.Path.{◌≡◌, refl, sym, ap, ◌∙◌}
use mathlib.Core.List.{List, [], ◌∷◌}
use Prim.Native.Nat.{ℕ, zero, suc, ◌+◌, ◌-◌, ◌*◌, ◌%◌, ◌≤◌, ◌<◌, zero-le, suc-le-suc}
use native.Mathlib.Nat.{mul-zero, le_of_suc-le-suc, not-suc-le-zero}
use native.Mathlib.Omega.{arith}
use lib.ListN.{length}
use Rattle.lists.proofs.Every.{Every, none, more}
use Rattle.field.specs.Field.{prime, sum, product}
use Rattle.field.proofs.Congruence.{◌≈◌, same_refl, same_sym, same_trans, same_eq, eq_same, reduced, times, ◌⊕◌, ◌⊗◌, lc}
use Rattle.field.proofs.Operations.{mod-word, sum_same, sum-word, product_same}
use Rattle.polynomial.specs.Polynomial.{eval, value, linear}

pub value_same : (cs : List ℕ) (x : ℕ) → value cs x ≈ eval cs x
unfolding value
value_same cs x = reduced (eval cs x)

pub value-word : (cs : List ℕ) (x : ℕ) → value cs x < prime
unfolding value
value-word cs x = mod-word (eval cs x)

pub value-eq : (f g : List ℕ) (x y : ℕ) → eval f x ≈ eval g y → value f x ≡ value g y
value-eq f g x y h = eq_same (value-word f x) (value-word g y) (same_trans (value_same f x) (same_trans h (same_sym (value_same g y))))

pub eval-eq : (f g : List ℕ) (x y : ℕ) → value f x ≡ value g y → eval f x ≈ eval g y
eval-eq f g x y h = same_trans (same_sym (value_same f x)) (same_trans (same_eq h) (value_same g y))

-- the point may be taken modulo p
pub eval_point : (cs : List ℕ) {x y : ℕ} → x ≈ y → eval cs x ≈ eval cs y
unfolding eval
eval_point [] h = same_refl
eval_point (c ∷ cs) h = same_refl ⊕ (h ⊗ eval_point cs h)

-- Horner's step
pub value-cons : (c : ℕ) (cs : List ℕ) (x : ℕ) → value (c ∷ cs) x ≡ sum c (product x (value cs x))
unfolding eval
value-cons c cs x =
    eq_same (value-word (c ∷ cs) x) (sum-word c (product x (value cs x)))
    (same_trans (value_same (c ∷ cs) x)
    (same_sym (same_trans (sum_same c (product x (value cs x))) (same_refl ⊕ same_trans (product_same x (value cs x)) (times x (value_same cs x))))))

-- the same from the value of the others and the step that the code takes
pub value_with : (c v r : ℕ) (cs : List ℕ) (x : ℕ) → r ≡ sum c (product x v) → v ≡ value cs x → r ≡ value (c ∷ cs) x
value_with c v r cs x er ev = er ∙ ap (λ (w : ℕ). sum c (product x w)) ev ∙ sym (value-cons c cs x)

-- four steps at once, with the powers of x taken modulo p
pub value_four : (c₀ c₁ c₂ c₃ : ℕ) (cs : List ℕ) (x : ℕ)
    → value (c₀ ∷ c₁ ∷ c₂ ∷ c₃ ∷ cs) x
    ≡ (c₀ + x * c₁ + product x x * c₂ + product (product x x) x * c₃ + product (product x x) (product x x) * value cs x) % prime
unfolding eval
value_four c₀ c₁ c₂ c₃ cs x =
    let s : product x x ≈ x * x = product_same x x in
    let q : product (product x x) x ≈ x * x * x = same_trans (product_same (product x x) x) (s ⊗ same_refl) in
    let f : product (product x x) (product x x) ≈ x * x * (x * x) = same_trans (product_same (product x x) (product x x)) (s ⊗ s) in
    let powers : c₀ + x * c₁ + product x x * c₂ + product (product x x) x * c₃ + product (product x x) (product x x) * value cs x
    ≈ c₀ + x * c₁ + x * x * c₂ + x * x * x * c₃ + x * x * (x * x) * eval cs x =
    (((same_refl ⊕ (s ⊗ same_refl)) ⊕ (q ⊗ same_refl)) ⊕ (f ⊗ value_same cs x)) in
    eq_same (value-word (c₀ ∷ c₁ ∷ c₂ ∷ c₃ ∷ cs) x)
    (mod-word (c₀ + x * c₁ + product x x * c₂ + product (product x x) x * c₃ + product (product x x) (product x x) * value cs x))
    (same_trans (value_same (c₀ ∷ c₁ ∷ c₂ ∷ c₃ ∷ cs) x)
    (same_trans (same_eq (omega arith)) (same_sym (same_trans (reduced _) powers))))

-- all coefficients are 0, so all values are
pub eval-zero : {cs : List ℕ} → Every (λ c. c ≈ 0) cs → (x : ℕ) → eval cs x ≈ 0
unfolding eval
eval-zero none x = same_refl
eval-zero (more h e) x = same_trans (h ⊕ times x (eval-zero e x)) (same_eq (ap (λ (n : ℕ). 0 + n) (mul-zero x) ∙ refl))

-- c + (X − x) · f
pub length-linear : (x c : ℕ) (f : List ℕ) → length (linear x c f) ≡ suc (length f)
unfolding linear
length-linear x c [] = refl
length-linear x c (a ∷ f) = ap suc (length-linear x a f)

pub linear_words : (x c : ℕ) (f : List ℕ) → Every (λ a. a < prime) (linear x c f)
unfolding linear
linear_words x c [] = more (mod-word c) none
linear_words x c (a ∷ f) = more (mod-word (c + (prime - x % prime) * a)) (linear_words x a f)

minus_point : (x : ℕ) → prime - x % prime ≈ 65520 * x
minus_point x = omega arith

pub linear_step : (x c a z e g : ℕ) → e ≈ a + (z + 65520 * x) * g → c + 65520 * x * a + z * e ≈ c + (z + 65520 * x) * (a + z * g)
linear_step x c a z e g h = lc (times z h) (same_eq (omega arith))

pub eval-linear : (x c : ℕ) (f : List ℕ) (z : ℕ) → eval (linear x c f) z ≈ c + (z + 65520 * x) * eval f z
unfolding linear eval
eval-linear x c [] z = same_trans (reduced c ⊕ same_eq (mul-zero z)) (same_eq (ap (λ (n : ℕ). c + n) (sym (mul-zero (z + 65520 * x)))))
eval-linear x c (a ∷ f) z =
    same_trans (same_trans (reduced (c + (prime - x % prime) * a)) (same_refl ⊕ (minus_point x ⊗ same_refl)) ⊕ same_refl)
    (linear_step x c a z (eval (linear x a f) z) (eval f z) (eval-linear x a f z))

-- the polynomial a · f + b · g
unfoldable pub combine : ℕ → List ℕ → ℕ → List ℕ → List ℕ
combine a [] b [] = []
combine a (x ∷ f) b [] = a * x % prime ∷ combine a f b []
combine a [] b (y ∷ g) = b * y % prime ∷ combine a [] b g
combine a (x ∷ f) b (y ∷ g) = (a * x + b * y) % prime ∷ combine a f b g

pub length_combine : (a : ℕ) (f : List ℕ) (b : ℕ) (g : List ℕ) (n : ℕ) → length f ≤ n → length g ≤ n → length (combine a f b g) ≤ n
unfolding combine
length_combine a [] b [] n h k = h
length_combine a (x ∷ f) b [] zero h k = absurd (not-suc-le-zero h)
length_combine a (x ∷ f) b [] (suc n) h k = suc-le-suc (length_combine a f b [] n (le_of_suc-le-suc h) zero-le)
length_combine a [] b (y ∷ g) zero h k = absurd (not-suc-le-zero k)
length_combine a [] b (y ∷ g) (suc n) h k = suc-le-suc (length_combine a [] b g n zero-le (le_of_suc-le-suc k))
length_combine a (x ∷ f) b (y ∷ g) zero h k = absurd (not-suc-le-zero k)
length_combine a (x ∷ f) b (y ∷ g) (suc n) h k = suc-le-suc (length_combine a f b g n (le_of_suc-le-suc h) (le_of_suc-le-suc k))

combine_step : (a b x y z e f g : ℕ) → e ≈ a * f + b * g → a * x + b * y + z * e ≈ a * (x + z * f) + b * (y + z * g)
combine_step a b x y z e f g h = lc (times z h) (same_eq (omega arith))

lone : (a b x z e f : ℕ) → e ≈ a * f + b * 0 → a * x + z * e ≈ a * (x + z * f) + b * 0
lone a b x z e f h = lc (times z h) (same_eq (omega arith))

pub eval_combine : (a : ℕ) (f : List ℕ) (b : ℕ) (g : List ℕ) (z : ℕ) → eval (combine a f b g) z ≈ a * eval f z + b * eval g z
unfolding combine eval
eval_combine a [] b [] z = same_eq (omega arith)
eval_combine a (x ∷ f) b [] z =
    same_trans (reduced (a * x) ⊕ same_refl)
    (lone a b x z (eval (combine a f b []) z) (eval f z) (eval_combine a f b [] z))
eval_combine a [] b (y ∷ g) z =
    same_trans (reduced (b * y) ⊕ same_refl)
    (same_trans (lone b a y z (eval (combine a [] b g) z) (eval g z) (same_trans (eval_combine a [] b g z) (same_eq (omega arith)))) (same_eq (omega arith)))
eval_combine a (x ∷ f) b (y ∷ g) z =
    same_trans (reduced (a * x + b * y) ⊕ same_refl)
    (combine_step a b x y z (eval (combine a f b g) z) (eval f z) (eval g z) (eval_combine a f b g z))
