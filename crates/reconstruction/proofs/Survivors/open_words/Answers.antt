-- `reconstruction::Survivors::open_words`: where a word has no polynomial, or too few are left, nothing is found for all words together, and after the last
-- word all is found.
-- Assumes nothing.
use Rattle.std.proofs.Common.{refl, rules}
use Rattle.reconstruction.proofs.AllWords.{opening_begun, opening_none, opening_few, opening_next, opening-set, opening_enough, opening_last}
use Rattle.reconstruction.proofs.Survivors.open_words.Goals as goal

pub loop-k-init : goal.loop-k-init
loop-k-init c =
    record {
      going = opening_begun c.args.self.now c.requires.secret_len c.requires.begun;
      of_n = search rules;
      long = search rules;
    }

pub returns-in_default : goal.returns-in_default
returns-in_default c = opening_none c.args.self.now c.loop-k.invariant.going c.loop-k-test.true c.in_default.ensures c.refuse.ensures

pub returns-then-too_few : goal.returns-then-too_few
returns-then-too_few c =
    opening_few c.args.self.now c.loop-k.invariant.going c.loop-k-test.true c.in-Some.ensures c.both-agreed.ensures c.too_few.ensures c.if-too_few.true _
    c.refuse-then-too_few.ensures

pub renew-matrix-requires : goal.renew-matrix-requires
renew-matrix-requires c =
    let going = opening_next c.args.self.now c.loop-k.invariant.going c.loop-k-test.true c.in-Some.ensures c.both-agreed.ensures c.too_few.ensures
    c.if-too_few.false refl in
    rw c.loop-k.invariant.of_n (opening-set c.args.self.now going, opening_enough c.args.self.now going c.loop-k.invariant.long)

pub loop-k-preserved : goal.loop-k-preserved
loop-k-preserved c =
    record {
      going =
          opening_next c.args.self.now c.loop-k.invariant.going c.loop-k-test.true c.in-Some.ensures c.both-agreed.ensures c.too_few.ensures
          c.if-too_few.false refl;
      of_n = search rules;
      long = search rules;
    }

pub returns : goal.returns
returns c = opening_last c.args.self.now c.loop-k.invariant.going c.loop-k-test.false
