-- The turns of the sums: a member's products added to each word's two sums, and all members' then the row's sum.
-- Assumes nothing.
use Rattle.std.proofs.Common.{◌≡◌, ℕ, zero, suc, ◌+◌, ◌*◌, ◌/◌, ◌%◌, ◌≤◌, ◌<◌}
use Rattle.std.proofs.Common.{List, length, get_or, replicate, refl, sym, ap, ap₂, ◌∙◌, subst, arith, below_more, add-one}
use Rattle.std.proofs.Math.ListN.{set}
use Rattle.std.proofs.lemmas.List.{get_or-set_same, get_or-set_other}
use native.Mathlib.Nat.{le_refl}
use native.Mathlib.Decide.{dec_le}
use Rattle.lists.specs.Tabulate.{tab, sum_to}
use Rattle.lists.proofs.Sums.{sum_to_last}
use Rattle.lists.proofs.Tabulate.{length-tab, get_or-tab}
use Rattle.field.specs.Field.{prime}
use Rattle.parity.specs.Internal.Looking.{dot}
use Rattle.parity.specs.Internal.Summing.{Fits, Cleared, Added, Summed, sum_at}

-- zeros
none : (n k : ℕ) → get_or (replicate {A = ℕ} n 0) k 0 ≡ 0
none zero k = refl
none (suc n) zero = refl
none (suc n) (suc k) = none n k

pub cleared : {low high : List ℕ} (m n : ℕ) → low ≡ replicate m 0 → high ≡ replicate n 0 → Cleared low high
cleared m n el eh =
    record {
      low_none = λ k. ap (λ (l : List ℕ). get_or l k 0) el ∙ none m k;
      high_none = λ k. ap (λ (l : List ℕ). get_or l k 0) eh ∙ none n k;
    }

pub cleared_fits : {low high : List ℕ} (i : ℕ) → Cleared low high → Fits i low high
cleared_fits i h = record { low_fits = λ k. omega (arith, h.low_none k); high_fits = λ k. omega (arith, h.high_none k) }

-- halves of more members
pub fits_most : {low high : List ℕ} {i : ℕ} (m : ℕ) → i ≤ m → Fits i low high → Fits m low high
fits_most m l h = record { low_fits = λ k. omega (arith, h.low_fits k); high_fits = λ k. omega (arith, h.high_fits k) }

module _ (weight : ℕ) (words low₀ high₀ : List ℕ) where
  pub added_none : Added weight words low₀ high₀ 0 low₀ high₀
  added_none = record { small = λ k l. absurd (omega arith); low_added = λ k l. absurd (omega arith); high_added = λ k l. absurd (omega arith); low_kept = λ k l. refl; high_kept = λ k l. refl }

  module _ (low high : List ℕ) (n : ℕ) (h : Added weight words low₀ high₀ n low high) where
    pub added_next : (p : ℕ) → p ≡ weight * get_or words n 0 → p ≤ 4294836225 → n < length low → n < length high
        → Added weight words low₀ high₀ (n + 1) (set low n (get_or low n 0 + p % 65536)) (set high n (get_or high n 0 + p / 65536))
    added_next p e b ll lh =
        record {
          small = below_more _ n h.small (subst (λ (q : ℕ). q ≤ 4294836225) e b);
          low_added =
              below_more _ n (λ j b. get_or-set_other low n j _ 0 (λ q. omega arith) ∙ h.low_added j b)
              (get_or-set_same low n _ 0 ll ∙ ap₂ (λ (v q : ℕ). v + q % 65536) (h.low_kept n (le_refl n)) e);
          high_added =
              below_more _ n (λ j b. get_or-set_other high n j _ 0 (λ q. omega arith) ∙ h.high_added j b)
              (get_or-set_same high n _ 0 lh ∙ ap₂ (λ (v q : ℕ). v + q / 65536) (h.high_kept n (le_refl n)) e);
          low_kept = λ j b. get_or-set_other low n j _ 0 (λ q. omega arith) ∙ h.low_kept j (omega arith);
          high_kept = λ j b. get_or-set_other high n j _ 0 (λ q. omega arith) ∙ h.high_kept j (omega arith);
        }

    -- a place that is still as it was has room for one product more
    pub low_room : Fits 30 low₀ high₀ → get_or low n 0 ≤ 65535 * 30
    low_room f = omega (arith, h.low_kept n (le_refl n), f.low_fits n)

    -- the sums are then of one member more
    pub added_fits : (i : ℕ) → Fits i low₀ high₀ → Fits (i + 1) low high
    added_fits i f =
        record {
          low_fits = λ k. elim (dec_le n k) [
            | yes l ↦ kept i (h.low_kept k l) (f.low_fits k)
            | no l ↦ low_fit i (weight * get_or words k 0) (h.low_added k (omega arith)) (f.low_fits k)
          ];
          high_fits = λ k. elim (dec_le n k) [
            | yes l ↦ kept i (h.high_kept k l) (f.high_fits k)
            | no l ↦ high_fit i (weight * get_or words k 0) (h.high_added k (omega arith)) (h.small k (omega arith)) (f.high_fits k)
          ];
        }
      where
        kept : (i : ℕ) {a b : ℕ} → b ≡ a → a ≤ 65535 * i → b ≤ 65535 * (i + 1)
        kept i e l = omega arith

        low_fit : (i p : ℕ) {a b : ℕ} → b ≡ a + p % 65536 → a ≤ 65535 * i → b ≤ 65535 * (i + 1)
        low_fit i p e l = omega arith

        high_fit : (i p : ℕ) {a b : ℕ} → b ≡ a + p / 65536 → p ≤ 4294836225 → a ≤ 65535 * i → b ≤ 65535 * (i + 1)
        high_fit i p e s l = omega arith

module _ (d : ℕ) (y : ℕ → ℕ → ℕ) (row : List ℕ) where
  pub summed_first : {low high : List ℕ} → Cleared low high → Summed d y row 0 low high
  unfolding sum_to
  summed_first h = record { fits = cleared_fits 0 h; so_far = λ k l. ap₂ (λ (a b : ℕ). a + 65536 * b) (h.low_none k) (h.high_none k) }

  pub summed_next : (i : ℕ) (words low high next_low next_high : List ℕ) → Summed d y row i low high → words ≡ tab d (y i)
      → Added (get_or row i 0) words low high (length words) next_low next_high
      → Summed d y row (i + 1) next_low next_high
  summed_next i words low high next_low next_high h ew added =
      record {
        fits = added_fits (get_or row i 0) words low high next_low next_high (length words) added i h.fits;
        so_far = λ k l.
            joined (get_or row i 0 * y i k) (get_or low k 0) (get_or high k 0)
            (added.low_added k (inside k l) ∙ ap (λ (w : ℕ). get_or low k 0 + get_or row i 0 * w % 65536) (read k l))
            (added.high_added k (inside k l) ∙ ap (λ (w : ℕ). get_or high k 0 + get_or row i 0 * w / 65536) (read k l))
            (h.so_far k l)
            ∙ sym (sum_to_last i (λ j. get_or row j 0 * y j k))
            ∙ ap (λ (m : ℕ). sum_to m (λ j. get_or row j 0 * y j k)) (sym (add-one i));
      }
    where
      inside : (k : ℕ) → k < d → k < length words
      inside k l = omega (arith, ap length ew ∙ length-tab d (y i))

      read : (k : ℕ) → k < d → get_or words k 0 ≡ y i k
      read k l = ap (λ (r : List ℕ). get_or r k 0) ew ∙ get_or-tab d (y i) k 0 l

      joined : (p l h : ℕ) {l' h' n : ℕ} → l' ≡ l + p % 65536 → h' ≡ h + p / 65536 → l + 65536 * h ≡ n → l' + 65536 * h' ≡ n + p
      joined p l h el eh e = omega arith

  -- the sums of all members, where the last has been taken
  pub summed_last : (low high : List ℕ) (i n : ℕ) → i ≡ n → Summed d y row i low high → Summed d y row n low high
  summed_last low high i n e h = subst (λ (m : ℕ). Summed d y row m low high) e h

-- the sum that is read is the row's
pub sum_at_lem : (d n : ℕ) (y : ℕ → ℕ → ℕ) (row low high : List ℕ) → Summed d y row n low high → (k : ℕ) → k < d → sum_at low high k ≡ dot n row (λ i. y i k)
unfolding sum_at dot
sum_at_lem d n y row low high h k l = ap (λ (v : ℕ). v % prime) (h.so_far k l)
