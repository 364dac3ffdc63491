-- `reconstruction::open_voted`: its two tests are those of 14 and 15 in `finish`, and survivors have a vote, so that they can be decoded.
-- Assumes nothing.
use Rattle.reconstruction.proofs.Halves.{finish_14, finish_15, decodable, finish_words}
use Rattle.reconstruction.proofs.open_voted.Goals as goal

pub returns-then-card-required_members : goal.returns-then-card-required_members
returns-then-card-required_members c =
    finish_14 c.args.shares.now _ _ c.requires.voted _ _ _ c.card.ensures c.required_members.ensures c.if-card-required_members.true _ _ c.requires.secret_len c.refuse.ensures

pub returns-then-survivors-eq0 : goal.returns-then-survivors-eq0
returns-then-survivors-eq0 c =
    finish_15 c.args.shares.now _ _ c.requires.voted _ _ _ c.card.ensures c.required_members.ensures c.if-card-required_members.false _ c.surviving-survivors.ensures
    c.if-survivors-eq0.true _ _ c.requires.secret_len c.refuse-then-survivors-eq0.ensures

pub invariant_of-left : goal.invariant_of-left
invariant_of-left c =
    record { decodable = decodable c.args.shares.now _ _ c.requires.voted _ c.surviving-survivors.ensures c.if-survivors-eq0.false }

pub returns : goal.returns
returns c =
    finish_words c.args.shares.now _ _ c.requires.voted _ _ _ c.card.ensures c.required_members.ensures c.if-card-required_members.false _ c.surviving-survivors.ensures
    c.if-survivors-eq0.false _ c.open_all.ensures
