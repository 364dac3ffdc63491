-- The bytes of a text in ASCII.
-- Assumes nothing.
use Rattle.std.specs.Prelude.{ℕ, List, [], ◌∷◌}
use Prim.Native.Char.{code}
use Prim.Native.String as Str
use Prim.Native.String.{String}

unfoldable pub ascii : String → List ℕ
ascii Str.[] = []
ascii (Str.◌∷◌ c s) = code c ∷ ascii s
