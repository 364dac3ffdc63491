-- The share words that the survivors are opened from.
-- Assumes nothing.
use Rattle.std.specs.Prelude.{ℕ}
use Rattle.shares.specs.Layout.{share_word}
use Rattle.reconstruction.specs.declared.Survivors.{Survivors}

-- member i's share word at place k
abbrev pub words : Survivors → ℕ → ℕ → ℕ
words v = share_word v.shares.shape.t v.shares.shape.d v.shares.words.now
