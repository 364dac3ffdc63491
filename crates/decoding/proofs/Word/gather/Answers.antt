-- `decoding::Word::gather`: a member that passes is stored, until t + 1 are at hand or all members are seen.
-- Assumes nothing.
use Rattle.std.proofs.Common.{◌<◌, sym, ◌∙◌, arith}
use Rattle.members.specs.Members.{size}
use Rattle.decoding.proofs.Turns.{gathering_first, gathering_in, gathering_out, gathered_full, gathered_all}
use Rattle.decoding.proofs.Word.gather.Goals as goal
use Rattle.decoding.proofs.Word.gather.Goals.{then-sound+else-self-found, else-sound}

pub loop-i-init : goal.loop-i-init
loop-i-init c = record { so_far = gathering_first _ _ _ _ _ _ _ (omega arith) c.requires; not_all = omega arith }

pub returns-then-self-found : goal.returns-then-self-found
returns-then-self-found c =
    let inside : c.loop-i.i < size c.args.self.now.t = omega (arith, c.args.self.now.as_many) in
    gathered_full c.args.self.now _ _ _
    (gathering_in _ _ _ _ _ _ _ c.loop-i.invariant.so_far inside c.args.self.now.small c.loop-i.invariant.not_all (sym c.sound.ensures ∙ c.if-sound.true))
    (omega arith)

pub loop-i-preserved : goal.loop-i-preserved
loop-i-preserved c =
    let inside : c.loop-i.i < size c.args.self.now.t = omega (arith, c.args.self.now.as_many) in
    elim c.if-sound.branch [
      | then-sound+else-self-found w ↦ record {
        so_far =
            rw (w.chosen-is, w.kept-is, w.found-is)
            (gathering_in _ _ _ _ _ _ _ c.loop-i.invariant.so_far inside c.args.self.now.small c.loop-i.invariant.not_all (sym c.sound.ensures ∙ w.if-sound.true));
        not_all = omega arith;
      }
      | else-sound w ↦ record {
        so_far =
            rw (w.chosen-is, w.kept-is, w.found-is)
            (gathering_out _ _ _ _ _ _ _ c.loop-i.invariant.so_far inside (sym c.sound.ensures ∙ w.if-sound.false));
        not_all = omega arith;
      }
    ]

pub returns : goal.returns
returns c =
    gathered_all c.args.self.now _ _ _ c.loop-i.invariant.so_far (omega (arith, c.args.self.now.as_many)) c.loop-i.invariant.not_all
