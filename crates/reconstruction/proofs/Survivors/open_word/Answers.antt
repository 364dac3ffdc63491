-- `reconstruction::Survivors::open_word`: what the matrix gives is the word's polynomial if enough survivors meet it, since there is never more than one.
-- Assumes nothing.
use Rattle.std.proofs.Common.{◌∙◌, arith, add-one}
use Rattle.std.proofs.Math.Seq.{length-take-le}
use Rattle.reconstruction.proofs.ByWord.{came_read}
use Rattle.reconstruction.proofs.Survivors.open_word.Goals as goal

pub returns : goal.returns
returns c =
    came_read c.args.self.now _ c.requires.k_lt_d _ _ c.requires.of_n.1
    (c.read_word-met.auto.chosen ∙ length-take-le _ _ (omega (arith, c.args.self.now.shares.shape.t_high)) ∙ add-one _)
    c.read_word-met.ensures.expected_after c.read_word-met.ensures.value c.both-agreeing.ensures c.too_few.ensures c.if-too_few.false
