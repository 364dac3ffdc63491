-- What documents 01 and 02 say of their rules, from the laws of field, pruning and decoding.
-- Assumes nothing.
use mathlib.Core.Path.{◌≡◌, sym, ◌∙◌}
use mathlib.Core.Logic.{inl, inr}
use mathlib.Core.Bool.{true, ◌||◌}
use mathlib.Core.List.{List}
use Prim.Native.Nat.{ℕ, ◌^◌, ◌<◌}
use native.Mathlib.Nat.{le_trans}
use native.Mathlib.Omega.{arith}
use lib.Dec.{lit<}
use Rattle.lists.proofs.Bools.{or_left, or_yes, or_elim}
use Rattle.field.specs.Field.{prime, product, inverse}
use Rattle.field.proofs.Congruence.{same_trans, eq_same}
use Rattle.field.proofs.Operations.{product-word, product_same}
use Rattle.field.proofs.Fermat.{is_prime, inverse_law, inverse-word}
use Rattle.members.specs.Members.{size, has, set_of}
use Rattle.members.proofs.Masks.{has-set_of, set_of-lt}
use Rattle.pruning.specs.Pruning.{survivors, Closed}
use Rattle.pruning.proofs.Counts.{votes_apart}
use Rattle.pruning.proofs.Largest.{Above, votes_mono, above_strike, above_all, largest_unique, survivors_largest, survivors_size, struck_survivors}
use Rattle.decoding.proofs.Search.{find-found, find_complete}
use Rattle.decoding.proofs.Unique.{fits_value}
use Rattle.claims.specs.Rules.{joined, Struck, stop, strike, Rules}
use Rattle.claims.proofs.Opening.{points_distinct}

inverses : (a : ℕ) → 0 < a → a < prime → (inverse a < prime) × (product a (inverse a) ≡ 1)
inverses a h l =
    (inverse-word a, eq_same (product-word a (inverse a)) (lit< tt) (same_trans (product_same a (inverse a)) (inverse_law a (λ e. omega arith))))

-- a member of either set keeps its votes in the joined set
joined_closed : (t : ℕ) (rows : List ℕ) (a b : ℕ) → Closed t rows a → Closed t rows b → Closed t rows (joined (size t) a b)
unfolding joined
joined_closed t rows a b ca cb =
    record {
      accepted = λ i h e.
          elim (or_elim (has a i) (has b i) (sym (in_joined i h) ∙ e)) [
            | inl x ↦ le_trans (ca.accepted i h x) (votes_mono t rows a _ (λ j k y. in_joined j k ∙ or_left (has a j) (has b j) y) i)
            | inr x ↦ le_trans (cb.accepted i h x) (votes_mono t rows b _ (λ j k y. in_joined j k ∙ or_yes (has a j) (has b j) y) i)
          ];
    }
  where
    in_joined : (i : ℕ) → i < size t → has (set_of (size t) (λ j. has a j || has b j)) i ≡ (has a i || has b i)
    in_joined i h = has-set_of (size t) (λ j. has a j || has b j) i h

-- strikes leave every closed set in
struck_above : (t : ℕ) (rows : List ℕ) {set end : ℕ} → Struck t rows set end → Above t rows set → Above t rows end
struck_above t rows stop above = above
struck_above t rows (strike {set = set} {next = next} s r) above = struck_above t rows r (above_strike t rows set next above s.keeps)

struck_below : (t : ℕ) (rows : List ℕ) {set end : ℕ} → Struck t rows set end → set < 2 ^ size t → end < 2 ^ size t
struck_below t rows stop h = h
struck_below t rows (strike s r) h = struck_below t rows r s.below

pub rules : Rules
rules =
    record {
      prime_is_prime = is_prime;
      inverses = inverses;
      joined_closed = joined_closed;
      survivors_largest = survivors_largest;
      one_largest = λ t rows set l. largest_unique t rows set (survivors t rows) l (survivors_largest t rows);
      survivors_size = survivors_size;
      any_order = λ t rows end s closed.
          struck_survivors t rows end (struck_below t rows s (set_of-lt (size t) (λ i. true))) (struck_above t rows s (above_all t rows)) closed;
      subtracting = votes_apart;
      found_fits = λ xs t d y set fs e. (find-found xs t d y set fs e).fits;
      finds = λ xs t d y set p. find_complete xs (points_distinct p) t p.long d y set;
      never_two = λ xs t d y set p. fits_value xs (points_distinct p) t p.long d y set;
    }
