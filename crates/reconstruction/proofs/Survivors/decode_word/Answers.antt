-- `reconstruction::Survivors::decode_word`: the decoder takes the members' words, and answers for them.
-- Assumes nothing.
use Rattle.std.proofs.Common.{◌∙◌, ap, rules}
use Rattle.std.proofs.Math.Seq.{length-take-le}
use Rattle.lists.specs.Tabulate.{tab}
use Rattle.reconstruction.specs.Internal.Words.{words}
use Rattle.reconstruction.proofs.ByWord.{decodes}
use Rattle.reconstruction.proofs.Survivors.decode_word.Goals as goal

pub returns : goal.returns
returns c =
    decodes c.args.self.now _ c.requires.0 _
    (c.column_by.ensures (λ i. i) (λ m i h. search rules) ∙ ap (λ n. tab n (λ i. words c.args.self.now i c.args.k)) (length-take-le _ _ c.args.self.now.shares.shape.few))
    _ c.requires.1 c.decode.result _ c.decode.ensures
