-- `samples::Spaced`: the words so far are written.
-- Assumes nothing.
use Rattle.std.proofs.Common.{◌++◌, flat_map, take}
use Rattle.std.specs.Fmt.{HasWritten, IsPlainFormatter, decimal}
use Rattle.samples.proofs.SpacedDisplay.fmt.Given as goal

abbrev pub invariant-loop-word : goal.invariant-loop-word
invariant-loop-word g l =
    IsPlainFormatter l.initial.f
    → HasWritten g.W.Write.write_str_gives l.initial.f (flat_map (λ word. decimal word ++ l.self.1.now) (take l.word-index l.word-items)) l.f
