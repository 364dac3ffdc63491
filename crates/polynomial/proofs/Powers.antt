-- A sum of coefficients times powers of x is the polynomial's value at x; coefficients before others; and how the powers are made.
-- Assumes nothing.
use mathlib.Core.Path.{◌≡◌, sym, ap, ◌∙◌, subst}
use mathlib.Core.List.{List, [], ◌∷◌, ◌++◌, append_assoc}
use Prim.Native.Nat.{ℕ, zero, suc, ◌+◌, ◌-◌, ◌*◌, ◌%◌, ◌^◌, ◌≤◌, ◌<◌, suc-le-suc, zero-le}
use native.Mathlib.Nat.{pow-suc, pow-zero, not-suc-le-zero, le_of_suc-le-suc}
use native.Mathlib.Decide.{dec_le}
use native.Mathlib.Omega.{arith}
use lib.ListN.{length, get_or, take, drop, set, length-set, length-drop, take-append-drop}
use lib.Seq.{length-take-le, take_all, get_or-drop, get_or-set_same, get_or-set_other}
use borrow.Rule.Slice.PartMut.{mid_of}
use Rattle.field.specs.Field.{prime, sum, product}
use Rattle.field.specs.Internal.Dot.{dot}
use Rattle.field.proofs.Congruence.{◌≈◌, same_refl, same_sym, same_trans, same_eq, eq_same, reduced, times, ◌⊕◌, ◌⊗◌}
use Rattle.field.proofs.Operations.{mod-word, sum-word, sum_same, product_same}
use Rattle.polynomial.specs.Polynomial.{eval, value}
use Rattle.polynomial.specs.Internal.Powers.{Powers, sixteen, ByPowers}
use Rattle.polynomial.proofs.Evaluation.{value_same, value-word}

-- the powers from k on
pub dot_powers : (x k : ℕ) (cs ps : List ℕ) → length cs ≤ length ps → ((m : ℕ) → m < length cs → get_or ps m 0 ≈ x ^ (k + m)) → dot cs ps ≈ x ^ k * eval cs x
unfolding dot eval
dot_powers x k [] ps h at = same_eq (omega arith)
dot_powers x k (c ∷ cs) [] h at = absurd (not-suc-le-zero h)
dot_powers x k (c ∷ cs) (p ∷ ps) h at =
    step (x ^ k) (x ^ suc k) p (eval cs x) (dot cs ps) (pow-suc x k) (same_trans (at 0 (suc-le-suc zero-le)) (same_eq (ap (λ (n : ℕ). x ^ n) (omega arith))))
    (dot_powers x (suc k) cs ps (le_of_suc-le-suc h) (λ m l. same_trans (at (suc m) (suc-le-suc l)) (same_eq (ap (λ (n : ℕ). x ^ n) (omega arith)))))
  where
    step : (y z p e d : ℕ) → z ≡ y * x → p ≈ y → d ≈ z * e → c * p + d ≈ y * (c + x * e)
    step y z p e d ez hp hd =
        same_trans (times c hp ⊕ same_trans hd (same_eq (ap (λ (n : ℕ). n * e) ez))) (same_eq (omega arith))

pub eval-append : (b cs : List ℕ) (x : ℕ) → eval (b ++ cs) x ≡ eval b x + x ^ length b * eval cs x
unfolding eval
eval-append [] cs x = sym (ap (λ (n : ℕ). 0 + n * eval cs x) (pow-zero x) ∙ omega arith)
eval-append (c ∷ b) cs x = step (eval (b ++ cs) x) (eval b x) (x ^ length b) (x ^ suc (length b)) (eval cs x) (eval-append b cs x) (pow-suc x (length b))
  where
    step : (w e y z r : ℕ) → w ≡ e + y * r → z ≡ y * x → c + x * w ≡ c + x * e + z * r
    step w e y z r h ez =
        ap (λ (n : ℕ). c + x * n) h ∙ (let m : c + x * (e + y * r) ≡ c + x * e + y * x * r = omega arith in m) ∙ ap (λ (n : ℕ). c + x * e + n * r) (sym ez)

module _ (x : ℕ) (ps : List ℕ) (P : Powers x ps) where
  power_at : (m : ℕ) → m < length ps → get_or ps m 0 ≈ x ^ m
  power_at m h = record { same = P.at m h }

  -- a block's sum, with the rest times the next power
  pub block_before : (b cs : List ℕ) (rest : ℕ) → length b < length ps → rest ≈ eval cs x → dot b ps + rest * get_or ps (length b) 0 ≈ eval (b ++ cs) x
  block_before b cs rest h hr =
      same_trans
      (same_trans (dot_powers x 0 b ps (omega arith) (λ m l. same_trans (power_at m (omega arith)) (same_eq (ap (λ (n : ℕ). x ^ n) (omega arith)))))
      (same_eq (ap (λ (n : ℕ). n * eval b x) (pow-zero x) ∙ omega arith))
      ⊕ same_trans (hr ⊗ power_at (length b) h) (same_eq (omega arith)))
      (same_eq (sym (eval-append b cs x)))

-- sixteen coefficients
pub sixteen_before : (x : ℕ) (ps : List ℕ) → Powers x ps → length ps ≡ 9 → (block cs : List ℕ) → length block ≡ 16
    → sixteen ps block (value cs x) ≡ value (block ++ cs) x
unfolding sixteen
sixteen_before x ps P lp block cs lb =
    let lo : List ℕ = take 8 block in
    let hi : List ℕ = drop 8 block in
    let long_lo : length lo ≡ 8 = length-take-le 8 block (omega arith) in
    let long_hi : length hi ≡ 8 = omega (arith, length-drop 8 block) in
    let whole : lo ++ (hi ++ cs) ≡ block ++ cs = sym (append_assoc lo hi cs) ∙ ap (λ (l : List ℕ). l ++ cs) (take-append-drop 8 block) in
    let upper : ℕ = dot hi ps + value cs x * get_or ps 8 0 in
    let top : upper ≈ eval (hi ++ cs) x =
    same_trans (same_eq (ap (λ (n : ℕ). dot hi ps + value cs x * get_or ps n 0) (sym long_hi)))
    (block_before x ps P hi cs (value cs x) (omega (arith, long_hi)) (value_same cs x)) in
    let lower : dot lo ps + upper * get_or ps 8 0 ≈ eval (lo ++ (hi ++ cs)) x =
    same_trans (same_eq (ap (λ (n : ℕ). dot lo ps + upper * get_or ps n 0) (sym long_lo))) (block_before x ps P lo (hi ++ cs) upper (omega (arith, long_lo)) top) in
    eq_same (mod-word _) (value-word (block ++ cs) x)
    (same_trans (reduced _) (same_trans lower (same_trans (same_eq (ap (λ (l : List ℕ). eval l x) whole)) (same_sym (value_same (block ++ cs) x)))))

-- as the code works it out
pub sixteen_made : (ps block : List ℕ) (rest upper lower r : ℕ) → length block ≡ 16 → upper ≡ dot (mid_of 8 8 block) ps + rest * get_or ps 8 0
    → lower ≡ dot (take 8 block) ps + upper * get_or ps 8 0 → r ≡ lower % prime → r ≡ sixteen ps block rest
unfolding sixteen
sixteen_made ps block rest upper lower r h eu el er =
    let hi : mid_of 8 8 block ≡ drop 8 block = take_all 8 (drop 8 block) (omega (arith, length-drop 8 block)) in
    er ∙ ap (λ (n : ℕ). n % prime) (el ∙ ap (λ (u : ℕ). dot (take 8 block) ps + u * get_or ps 8 0) (eu ∙ ap (λ (l : List ℕ). dot l ps + rest * get_or ps 8 0) hi))

-- a constant and others, by the powers from 1 on as the code takes them
pub by_powers : (ps : List ℕ) (c : ℕ) (cs : List ℕ) (d r : ℕ) → length ps ≡ suc (length cs) → d ≡ dot cs (mid_of 1 (length ps - 1) ps) % prime → r ≡ sum c d
    → ByPowers ps c cs r
unfolding eval
by_powers ps c cs d r long ed er =
    record {
      at_point = λ x P.
          let tail : mid_of 1 (length ps - 1) ps ≡ drop 1 ps = take_all (length ps - 1) (drop 1 ps) (omega (arith, length-drop 1 ps)) in
          let at : (m : ℕ) → m < length cs → get_or (drop 1 ps) m 0 ≈ x ^ (1 + m) = λ m l. same_trans (same_eq (get_or-drop 1 ps m 0)) (power_at x ps P (1 + m) (omega arith)) in
          let rest : d ≈ x * eval cs x =
          same_trans (same_eq (ed ∙ ap (λ (l : List ℕ). dot cs l % prime) tail))
          (same_trans (reduced _)
          (same_trans (dot_powers x 1 cs (drop 1 ps) (omega (arith, length-drop 1 ps)) at) (same_eq (ap (λ (n : ℕ). n * eval cs x) (one x))))) in
          er ∙ eq_same (sum-word c d) (value-word (c ∷ cs) x) (same_trans (sum_same c d) (same_trans (same_refl ⊕ rest) (same_sym (value_same (c ∷ cs) x))));
    }
  where
    one : (x : ℕ) → x ^ 1 ≡ x
    one x = pow-suc x 0 ∙ ap (λ (n : ℕ). n * x) (pow-zero x) ∙ (let u : 1 * x ≡ x = omega arith in u)

-- ---- how the powers are made

-- the words before place m are powers
pub record Made (x : ℕ) (powers : List ℕ) (m : ℕ) : Type 0 where
  pub so_far : (k : ℕ) → k < m → get_or powers k 0 ≈ x ^ k

pub made_first : (x : ℕ) (l : List ℕ) → 2 ≤ length l → Made x (set (set l 0 1) 1 x) 2
made_first x l h = record { so_far = at }
  where
    at : (k : ℕ) → k < 2 → get_or (set (set l 0 1) 1 x) k 0 ≈ x ^ k
    at zero g =
        same_eq (get_or-set_other (set l 0 1) 1 0 x 0 (λ e. omega arith) ∙ get_or-set_same l 0 1 0 (omega arith) ∙ sym (pow-zero x))
    at (suc zero) g =
        same_eq
        (get_or-set_same (set l 0 1) 1 x 0 (omega (arith, length-set l 0 1))
        ∙ (let one : x ≡ 1 * x = omega arith in one ∙ ap (λ (n : ℕ). n * x) (sym (pow-zero x)))
        ∙ sym (pow-suc x 0))
    at (suc (suc k)) g = absurd (not-suc-le-zero (le_of_suc-le-suc (le_of_suc-le-suc g)))

-- two powers more
raised : (x j w square : ℕ) {p : ℕ} → p ≈ x ^ j → square ≡ product x x → w ≡ product p square → w ≈ x ^ suc (suc j)
raised x j w square {p} hp es ew =
    same_trans (same_trans (same_eq ew) (product_same p square))
    (same_trans (hp ⊗ same_trans (same_eq es) (product_same x x)) (same_eq (two (x ^ j) (x ^ suc j) (pow-suc x j) ∙ sym (pow-suc x (suc j)))))
  where
    two : (y z : ℕ) → z ≡ y * x → y * (x * x) ≡ z * x
    two y z e = (let m : y * (x * x) ≡ y * x * x = omega arith in m) ∙ ap (λ (n : ℕ). n * x) (sym e)

pub made_next : (x : ℕ) (powers : List ℕ) (m n w square : ℕ) → n ≡ m + 1 → 2 ≤ m → m < length powers → square ≡ product x x
    → w ≡ product (get_or powers (m - 2) 0) square → Made x powers m → Made x (set powers m w) n
made_next x powers m n w square en two h es ew turn =
    record {
      so_far = λ k l. elim (dec_le (suc k) m) [
        | yes g ↦ same_trans (same_eq (get_or-set_other powers m k w 0 (λ e. omega arith))) (turn.so_far k g)
        | no g ↦ subst (λ (i : ℕ). get_or (set powers m w) i 0 ≈ x ^ i) (omega arith) new
      ];
    }
  where
    new : get_or (set powers m w) m 0 ≈ x ^ m
    new =
        let e : suc (suc (m - 2)) ≡ m = omega arith in
        same_trans (same_eq (get_or-set_same powers m w 0 h))
        (same_trans (raised x (m - 2) w square (turn.so_far (m - 2) (omega arith)) es ew) (same_eq (ap (λ (i : ℕ). x ^ i) e)))

pub made_last : (x : ℕ) (powers : List ℕ) (m : ℕ) → length powers ≤ m → Made x powers m → Powers x powers
made_last x powers m h turn = record { at = λ k l. (turn.so_far k (omega arith)).same }

-- for the loop
pub ruleset powers_made = (made_first, made_next, made_last)
