-- Laws of tags: a tag is a field word, one Horner step over the words' polynomial, and another where the first word is another.
-- Assumes nothing.
use mathlib.Core.Path.{◌≡◌, sym, ap, ◌∙◌}
use mathlib.Core.List.{List, [], ◌∷◌}
use Prim.Native.Nat.{ℕ, ◌+◌, ◌*◌, ◌%◌, ◌<◌}
use native.Mathlib.Omega.{arith}
use lib.ListN.{get_or, drop}
use Rattle.lists.specs.Tabulate.{tab}
use Rattle.lists.proofs.Loops.{tab_none, written_next, rewritten_last, read_kept, kept_next}
use Rattle.lists.proofs.Tabulate.{get_or-tab}
use Rattle.field.specs.Field.{prime, sum, product}
use Rattle.field.specs.Internal.Dot.{dot}
use Rattle.field.proofs.Congruence.{◌≈◌, same_refl, same_sym, same_trans, same_eq, eq_same, reduced, times, ◌⊕◌, ◌⊗◌, lc}
use Rattle.field.proofs.Operations.{mod-word, sum_same, sum-word, product_same}
use Rattle.field.proofs.Fermat.{cancel}
use Rattle.polynomial.specs.Polynomial.{eval, value}
use Rattle.polynomial.proofs.Evaluation.{value_same, value-cons}
use Rattle.mac.specs.Tag.{tag}

pub tag_word : (α β : ℕ) (ms : List ℕ) → tag α β ms < prime
unfolding tag
tag_word α β ms = mod-word (β + α * eval ms α)

pub tag_same : (α β : ℕ) (ms : List ℕ) → tag α β ms ≈ β + α * eval ms α
unfolding tag
tag_same α β ms = reduced (β + α * eval ms α)

pub tag_step : (α β : ℕ) (ms : List ℕ) → sum β (product α (value ms α)) ≡ tag α β ms
tag_step α β ms =
    eq_same (sum-word β (product α (value ms α))) (tag_word α β ms)
    (same_trans (sum_same β (product α (value ms α)))
    (same_trans (same_refl ⊕ same_trans (product_same α (value ms α)) (times α (value_same ms α))) (same_sym (tag_same α β ms))))

-- the same from the value and the step that the code takes
pub tag_from : (α β e r : ℕ) (ms : List ℕ) → r ≡ sum β (product α e) → e ≡ value ms α → r ≡ tag α β ms
tag_from α β e r ms er ee = er ∙ ap (λ (v : ℕ). sum β (product α v)) ee ∙ tag_step α β ms

-- two steps: the first word over the rest, and β over them all
pub tag_two : (α β a v w r : ℕ) (ms : List ℕ) → v ≡ value ms α → w ≡ sum a (product α v) → r ≡ sum β (product α w) → r ≡ tag α β (a ∷ ms)
tag_two α β a v w r ms ev ew er = tag_from α β w r (a ∷ ms) er (ew ∙ ap (λ (x : ℕ). sum a (product α x)) ev ∙ sym (value-cons a ms α))

-- words that differ in the first alone have the same tag only if the first ones are the same modulo p, or α is 0
pub tag-first : (α β a b : ℕ) (ms : List ℕ) → (α ≈ 0 → ⊥) → tag α β (a ∷ ms) ≡ tag α β (b ∷ ms) → a ≈ b
unfolding eval
tag-first α β a b ms some e =
    let x : ℕ = α * eval ms α in
    let same : β + α * (a + x) ≈ β + α * (b + x) = same_trans (same_sym (tag_same α β (a ∷ ms))) (same_trans (same_eq e) (tag_same α β (b ∷ ms))) in
    let scaled : α * (a + x) ≈ α * (b + x) = omega (arith, same) in
    lc (same_refl {a = x}) (cancel α some scaled)

-- the first word at power 1 and the rest from power 2 on, as the code adds them
pub tag_by_products : (α β a s v r : ℕ) (ms : List ℕ) → s ≡ product α α → v ≡ value ms α → r ≡ (β + dot (α ∷ s ∷ []) (a ∷ v ∷ [])) % prime → r ≡ tag α β (a ∷ ms)
unfolding eval dot
tag_by_products α β a s v r ms es ev er =
    let x : ℕ = eval ms α in
    let square : s ≈ α * α = same_trans (same_eq es) (product_same α α) in
    let rest : s * v ≈ α * α * x = square ⊗ same_trans (same_eq ev) (value_same ms α) in
    let sum : β + α * a + s * v ≈ β + α * a + α * α * x = same_refl {a = β + α * a} ⊕ rest in
    er
    ∙ ap (λ (n : ℕ). n % prime) (omega arith)
    ∙ eq_same (mod-word (β + α * a + s * v)) (tag_word α β (a ∷ ms))
    (same_trans (reduced (β + α * a + s * v)) (same_trans sum (same_trans (same_eq (omega arith)) (same_sym (tag_same α β (a ∷ ms))))))

-- the value in a lane that is still as it was
pub lane_kept : (f : ℕ → ℕ) (l : List ℕ) (j : ℕ) → j < 32 → drop j l ≡ drop j (tab 32 f) → get_or l j 0 ≡ f j
lane_kept f l j h e = read_kept l (tab 32 f) j 0 e ∙ get_or-tab 32 f j 0 h

-- for a loop that turns each value of the rest into the tag
pub ruleset under_all_keys = (tab_none, written_next, kept_next, rewritten_last, lane_kept, tag_two)
