-- `dealing::Supply::fill_words_by`: the first k share words are the values of the first k polynomials.
-- Assumes nothing.
use Rattle.std.proofs.Common.{◌≡◌, take}
use Rattle.lists.specs.Tabulate.{tab}
use Rattle.polynomial.specs.Polynomial.{value}
use Rattle.dealing.specs.Dealing.{polynomial}
use Rattle.dealing.proofs.Supply.fill_words_by.Given as goal

abbrev pub invariant-loop-k : goal.invariant-loop-k
invariant-loop-k g l = take l.k l.words ≡ tab l.k (λ k. value (polynomial l.self.shape.t l.self.secret.now l.self.random.now k) l.x)
