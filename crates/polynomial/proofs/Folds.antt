-- Evaluation from the last coefficient, or the last block of coefficients, to the first.
-- Assumes nothing.
use Rattle.std.proofs.Common.{◌≡◌, ℕ, zero, suc, ◌+◌, ◌*◌, ◌/◌, ◌%◌, ◌≤◌, List, [], ◌∷◌, ◌++◌, reverse, length, take, drop, get_or, refl, sym, ap, ◌∙◌, arith}
use Rattle.std.specs.List.{fold}
use Rattle.std.specs.Simd.{first_chunks}
use Rattle.std.proofs.lemmas.List.{drop-drop, reverse-append}
use Rattle.std.proofs.lemmas.List.Sums.{fold-append}
use lib.Seq.{length-take-le}
use lib.ListN.{take-append-drop, length-drop}
use Rattle.field.specs.Field.{prime, sum, product}
use Rattle.field.specs.Internal.Dot.{dot}
use Rattle.polynomial.specs.Polynomial.{eval, value}
use Rattle.polynomial.specs.Internal.Powers.{Powers, sixteen}
use Rattle.polynomial.proofs.Evaluation.{value-cons, value_four}
use Rattle.polynomial.proofs.Powers.{sixteen_before}

reverse_cons : {A : Type 0} (a : A) (as' : List A) → reverse (a ∷ as') ≡ reverse as' ++ (a ∷ [])
reverse_cons a as' = reverse-append (a ∷ []) as'

-- one coefficient at a time
pub by_one : (cs : List ℕ) (x r : ℕ) → r ≡ fold (λ v c. sum c (product x v)) 0 (reverse cs) → r ≡ value cs x
unfolding value eval
by_one cs x r e = e ∙ same cs
  where
    step : ℕ → ℕ → ℕ
    step v c = sum c (product x v)

    same : (l : List ℕ) → fold step 0 (reverse l) ≡ value l x
    same [] = refl
    same (c ∷ l) =
        ap (fold step 0) (reverse_cons c l)
        ∙ fold-append step 0 (reverse l) (c ∷ [])
        ∙ ap (λ (v : ℕ). sum c (product x v)) (same l)
        ∙ sym (value-cons c l x)

-- n coefficients at a time, by a step that puts n before others
module _ (x n : ℕ) (step : ℕ → List ℕ → ℕ) (before : (b cs : List ℕ) → length b ≡ n → step (value cs x) b ≡ value (b ++ cs) x) where
  pub by_blocks : (k : ℕ) (cs : List ℕ) (r : ℕ) → k * n ≤ length cs → r ≡ value (drop (k * n) cs) x → fold step r (reverse (first_chunks n k cs)) ≡ value cs x
  by_blocks zero cs r h e = e ∙ ap (λ (m : ℕ). value (drop m cs) x) (let z : zero * n ≡ 0 = omega arith in z)
  by_blocks (suc k) cs r h e =
      ap (fold step r) (reverse_cons (take n cs) (first_chunks n k (drop n cs)))
      ∙ fold-append step r (reverse (first_chunks n k (drop n cs))) (take n cs ∷ [])
      ∙ ap (λ (v : ℕ). step v (take n cs))
      (by_blocks k (drop n cs) r (omega (arith, length-drop n cs)) (e ∙ ap (λ (l : List ℕ). value l x) (sym (drop-drop (k * n) n cs ∙ ap (λ (m : ℕ). drop m cs) (omega arith)))))
      ∙ before (take n cs) (drop n cs) (length-take-le n cs (omega arith))
      ∙ ap (λ (l : List ℕ). value l x) (take-append-drop n cs)

-- four, by the first four powers modulo p
four_before : (x s q f : ℕ) → s ≡ product x x → q ≡ product s x → f ≡ product s s → (b cs : List ℕ) → length b ≡ 4
    → (get_or b 0 0 + dot (get_or b 1 0 ∷ get_or b 2 0 ∷ get_or b 3 0 ∷ value cs x ∷ []) (x ∷ s ∷ q ∷ f ∷ [])) % prime ≡ value (b ++ cs) x
unfolding dot
four_before x s q f es eq ef (c₀ ∷ c₁ ∷ c₂ ∷ c₃ ∷ []) cs h =
    ap (λ (n : ℕ). n % prime) (sorted c₀ c₁ c₂ c₃ (value cs x))
    ∙ rw (ef, eq, es) (sym (value_four c₀ c₁ c₂ c₃ cs x))
  where
    sorted : (a b c d v : ℕ) → a + (b * x + (c * s + (d * q + (v * f + 0)))) ≡ a + x * b + s * c + q * d + f * v
    sorted a b c d v = omega arith
four_before x s q f es eq ef [] cs h = absurd (omega arith)
four_before x s q f es eq ef (c₀ ∷ []) cs h = absurd (omega arith)
four_before x s q f es eq ef (c₀ ∷ c₁ ∷ []) cs h = absurd (omega arith)
four_before x s q f es eq ef (c₀ ∷ c₁ ∷ c₂ ∷ []) cs h = absurd (omega arith)
four_before x s q f es eq ef (c₀ ∷ c₁ ∷ c₂ ∷ c₃ ∷ c₄ ∷ b) cs h = absurd (omega arith)

pub by_fours : (cs : List ℕ) (x s q f first r : ℕ) → s ≡ product x x → q ≡ product s x → f ≡ product s s → first ≡ value (drop (length cs / 4 * 4) cs) x
    → r ≡ fold (λ v b. (get_or b 0 0 + dot (get_or b 1 0 ∷ get_or b 2 0 ∷ get_or b 3 0 ∷ v ∷ []) (x ∷ s ∷ q ∷ f ∷ [])) % prime) first
    (reverse (first_chunks 4 (length cs / 4) cs))
    → r ≡ value cs x
by_fours cs x s q f first r es eq ef e er =
    er
    ∙ by_blocks x 4 (λ v b. (get_or b 0 0 + dot (get_or b 1 0 ∷ get_or b 2 0 ∷ get_or b 3 0 ∷ v ∷ []) (x ∷ s ∷ q ∷ f ∷ [])) % prime)
    (four_before x s q f es eq ef) (length cs / 4) cs first (omega arith) e

-- sixteen, by the powers 0 to 8
pub by_sixteens : (cs ps : List ℕ) (x first r : ℕ) → Powers x ps → length ps ≡ 9 → first ≡ value (drop (length cs / 16 * 16) cs) x
    → r ≡ fold (λ v b. sixteen ps b v) first (reverse (first_chunks 16 (length cs / 16) cs)) → r ≡ value cs x
by_sixteens cs ps x first r P long e er =
    er ∙ by_blocks x 16 (λ v b. sixteen ps b v) (sixteen_before x ps P long) (length cs / 16) cs first (omega arith) e
