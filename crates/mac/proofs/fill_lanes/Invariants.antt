-- `mac::fill_lanes`: the lanes below j have their tags, and the others still the value of the rest.
-- Assumes nothing.
use Rattle.std.proofs.Common.{◌≡◌, ◌∷◌, get_or, take, drop}
use Rattle.lists.specs.Tabulate.{tab}
use Rattle.polynomial.specs.Polynomial.{value}
use Rattle.mac.specs.Tag.{tag}
use Rattle.mac.proofs.fill_lanes.Given as goal

abbrev pub invariant-loop-j : goal.invariant-loop-j
invariant-loop-j l =
    (take l.j l.tags ≡ tab l.j (λ k. tag (get_or l.alphas k 0) (get_or l.betas k 0) (l.first ∷ l.rest)))
    × (drop l.j l.tags ≡ drop l.j (tab 32 (λ k. value l.rest (get_or l.alphas k 0))))
