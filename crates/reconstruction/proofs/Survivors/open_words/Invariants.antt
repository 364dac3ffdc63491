-- `reconstruction::Survivors::open_words`: before word k the words before it have their polynomials, enough of the survivors meet these, and the values at 0
-- are stored.
-- Assumes nothing.
use Rattle.std.proofs.Common.{◌≡◌, suc, length}
use Rattle.members.specs.Members.{own_points}
use Rattle.reconstruction.specs.Internal.Words.{words}
use Rattle.reconstruction.proofs.AllWords.{Going}
use Rattle.reconstruction.proofs.Survivors.open_words.Given as goal

abbrev pub invariant-loop-k : goal.invariant-loop-k
invariant-loop-k l =
    record {
      going : Going (own_points l.self.shares.shape.t) l.self.shares.shape.t l.self.shares.shape.d (words l.self) l.self.set l.agreed l.secret l.k;
      of_n : l.matrix.n ≡ l.self.shares.shape.n;
      long : length l.matrix.points.now ≡ suc l.self.shares.shape.t;
    }
