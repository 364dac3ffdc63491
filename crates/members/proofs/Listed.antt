-- The members of a set as a list.
-- Assumes nothing.
use mathlib.Core.Path.{◌≡◌, refl, sym, ap, ◌∙◌}
use mathlib.Core.Bool.{Bool, true, false, cond}
use mathlib.Core.List.{List, [], ◌∷◌, ◌++◌, append-nil, append_assoc, Sublistᴰ}
use Prim.Native.Nat.{ℕ, zero, suc, ◌+◌, ◌<◌}
use native.Mathlib.Nat.{zero-add, suc-add}
use lib.ListN.{length}
use Rattle.lists.specs.Tabulate.{tab, count, keep}
use Rattle.lists.proofs.Blocks.{tab_more, every_tab}
use Rattle.lists.proofs.Every.{Every}
use Rattle.lists.proofs.Choose.{keep-sub, keep_mono, keep_every, keep_at, keep_append, length-keep-tab, every_sub}
use Rattle.members.specs.Members.{has, members_of}

-- those of n members that pass a test, in order
unfoldable pub passing : ℕ → (ℕ → Bool) → List ℕ
passing n p = keep p (tab n (λ i. i))

module _ (n : ℕ) (p : ℕ → Bool) where
  pub passing_sub : Sublistᴰ (passing n p) (tab n (λ i. i))
  unfolding passing
  passing_sub = keep-sub p (tab n (λ i. i))

  pub passing_every : Every (λ i. p i ≡ true) (passing n p)
  unfolding passing
  passing_every = keep_every p (tab n (λ i. i))

  pub passing_below : Every (λ i. i < n) (passing n p)
  passing_below = every_sub passing_sub (every_tab n (λ i. i) (λ i h. h))

  -- what holds of all of them holds of each
  pub passing_at : {P : ℕ → Type 0} → Every P (passing n p) → (i : ℕ) → i < n → p i ≡ true → P i
  unfolding passing
  passing_at e i h t = keep_at p n (λ i. i) e i h t

  pub length_passing : length (passing n p) ≡ count n p
  unfolding passing
  length_passing = length-keep-tab p n (λ i. i)

-- one member more
pub passing_more : (n : ℕ) (p : ℕ → Bool) → passing (suc n) p ≡ passing n p ++ cond (p n) (n ∷ []) []
unfolding passing keep
passing_more n p =
    ap (keep p) (tab_more n (λ i. i)) ∙ keep_append p (tab n (λ i. i)) (n ∷ []) ∙ ap (λ (l : List ℕ). keep p (tab n (λ i. i)) ++ l) (at (p n))
  where
    at : (b : Bool) → (elim b [ true ↦ n ∷ [] | false ↦ [] ]) ≡ cond b (n ∷ []) []
    at true = refl
    at false = refl

-- those among the first i come first
pub passing_prefix : (k i : ℕ) (p : ℕ → Bool) → (rest : List ℕ) × (passing (k + i) p ≡ passing i p ++ rest)
passing_prefix zero i p = ([], ap (λ (n : ℕ). passing n p) (zero-add i) ∙ sym (append-nil (passing i p)))
passing_prefix (suc k) i p = more (passing_prefix k i p)
  where
    more : (rest : List ℕ) × (passing (k + i) p ≡ passing i p ++ rest) → (rest : List ℕ) × (passing (suc k + i) p ≡ passing i p ++ rest)
    more r =
        let tail : List ℕ = cond (p (k + i)) ((k + i) ∷ []) [] in (
          r.0 ++ tail,
          ap (λ (n : ℕ). passing n p) (suc-add k i) ∙ passing_more (k + i) p ∙ ap (λ (l : List ℕ). l ++ tail) r.1 ∙ append_assoc (passing i p) r.0 tail,
        )

-- the members that pass a test which members of the set alone pass are a sublist of the set's
pub passing_members : (n set : ℕ) (p : ℕ → Bool) → ((i : ℕ) → p i ≡ true → has set i ≡ true) → Sublistᴰ (passing n p) (members_of n set)
unfolding passing members_of
passing_members n set p h = keep_mono p (has set) h (tab n (λ i. i))
