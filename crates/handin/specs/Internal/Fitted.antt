-- The writer's last check.
-- Assumes nothing.
use Rattle.std.specs.Prelude.{ℕ, List, [], ◌∷◌, leb, length}
use Rattle.lists.specs.Checks.{◌unless◌, checked}
use Rattle.handin.specs.Writer.{HandInText, unwritten, written}

-- the text is written where it fits
unfoldable pub fitted : List ℕ → List ℕ → HandInText
fitted text buffer = checked (unwritten buffer) (31 unless leb (length text) (length buffer) ∷ []) (written text buffer)
