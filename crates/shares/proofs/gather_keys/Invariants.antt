-- `shares::gather_keys`: the keys of the members below k are gathered, whatever they are, and the other places are as they were.
-- Assumes nothing.
use Rattle.std.proofs.Common.{◌≡◌, ℕ, ◌<◌, take, drop}
use Rattle.lists.specs.Tabulate.{tab}
use Rattle.shares.proofs.gather_keys.Given as goal

abbrev pub invariant-loop-k : goal.invariant-loop-k
invariant-loop-k g l =
    record {
      keys : (α β : ℕ → ℕ) → ((k : ℕ) (r : _) → k < l.n → goal.F-post g l.key k r → (r.alpha ≡ α k) × (r.beta ≡ β k))
          → (take l.k l.alphas ≡ tab l.k α) × (take l.k l.betas ≡ tab l.k β);
      others_kept : (drop l.k l.alphas ≡ drop l.k l.initial.alphas) × (drop l.k l.betas ≡ drop l.k l.initial.betas);
    }
