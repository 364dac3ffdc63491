-- `reconstruction::Survivors::column_by`: one more word, of the member that the closure names.
-- Assumes nothing.
use Rattle.std.proofs.Common.{refl, sym, ap, ◌∙◌, arith}
use Rattle.lists.proofs.Loops.{tab_none, written_next, written_last}
use Rattle.reconstruction.specs.Internal.Words.{words}
use Rattle.reconstruction.proofs.Survivors.column_by.Goals as goal

pub loop-m-init : goal.loop-m-init
loop-m-init g c = λ f h. sym (tab_none _)

pub loop-m-preserved : goal.loop-m-preserved
loop-m-preserved g c =
    λ f h. written_next _ _ _ _ _ refl (omega arith) (c.loop-m.invariant f h)
    (c.share_word.ensures ∙ ap (λ i. words c.args.self.now i c.args.k) (h _ _ c.member.ensures))

pub returns : goal.returns
returns g c = λ f h. written_last _ _ _ _ (omega arith) (omega arith) (c.loop-m.invariant f h)
