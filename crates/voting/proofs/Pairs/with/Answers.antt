-- `voting::Pairs::with`: one vote more of its kind.
-- Assumes nothing.
use Rattle.voting.proofs.Counts.{one_accepted, one_mismatched, one-unread}
use Rattle.voting.proofs.Pairs.with.Goals as goal

pub returns-in-Accepted : goal.returns-in-Accepted
returns-in-Accepted c = one_accepted c.args.self c.args.vote c.in-Accepted.is

pub returns-in-Mismatched : goal.returns-in-Mismatched
returns-in-Mismatched c = one_mismatched c.args.self c.args.vote c.in-Mismatched.is

pub returns-in-Unread : goal.returns-in-Unread
returns-in-Unread c = one-unread c.args.self c.args.vote c.in-Unread.is
