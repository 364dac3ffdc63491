-- `decoding::work_out`: the points are the members' own, which are made at the front of a buffer of 31 words.
-- Assumes nothing.
use Rattle.std.proofs.Common.{◌≡◌, ℕ, suc, List, get_or, sym, ap, ◌∙◌, subst, arith}
use lib.Seq.{length-take-le}
use Rattle.members.specs.Members.{own_points}
use Rattle.members.proofs.Words.{size_31}
use Rattle.decoding.specs.Decoding.{find, decoded_from}
use Rattle.decoding.specs.Internal.Outcome.{Accepted}
use Rattle.decoding.specs.Internal.Roster.{Roster}
use Rattle.decoding.proofs.Points.{own_roster, own_made}
use Rattle.decoding.proofs.work_out.Goals as goal

pub slice_bounds-own-end : goal.slice_bounds-own-end
slice_bounds-own-end c =
    let ok : Accepted _ _ _ _ = c.in_ok-check.ensures in
    omega (arith, size_31 c.args.t ok.small)

pub slice_bounds-points-end : goal.slice_bounds-points-end
slice_bounds-points-end c =
    let ok : Accepted _ _ _ _ = c.in_ok-check.ensures in
    sym (length-take-le c.size.result _ (omega (arith, size_31 c.args.t ok.small)))

pub invariant_of-word : goal.invariant_of-word
invariant_of-word c =
    let ok : Accepted _ _ _ _ = c.in_ok-check.ensures in
    let own : c.own_points.new.points ≡ own_points c.args.t = own_made c.args.t c.size.result _ _ ok.small c.size.ensures (omega arith) c.own_points.ensures in
    record {
      small = ok.small;
      roster = subst (Roster c.args.t) (sym own) (own_roster c.args.t ok.small);
      as_many = ok.as_many;
      proper = ok.proper;
    }

pub returns : goal.returns
returns c =
    let ok : Accepted _ _ _ _ = c.in_ok-check.ensures in
    let own : c.own_points.new.points ≡ own_points c.args.t = own_made c.args.t c.size.result _ _ ok.small c.size.ensures (omega arith) c.own_points.ensures in
    c.solve.ensures
    ∙ ap (λ (xs : List ℕ). decoded_from (suc c.args.t) (find xs c.args.t 1 (λ i k. get_or c.args.values.now i 0) c.args.set)) own
    ∙ sym ok.answer
