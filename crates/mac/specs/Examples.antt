-- Document 01's examples of tags, and corners that they leave open. Proved in proofs/Examples.antt.
use Rattle.std.specs.Prelude.{◌≡◌, [], ◌∷◌}
use Rattle.mac.specs.Tag.{tag}

-- C3: words 2, 3 under (4, 5) have tag 61
abbrev pub C3 : Type 0
C3 = tag 4 5 (2 ∷ 3 ∷ []) ≡ 61

-- C4: word 65520 under (1, 1) has tag 0
abbrev pub C4 : Type 0
C4 = tag 1 1 (65520 ∷ []) ≡ 0

pub record Examples : Type 0 where
  pub c3 : C3
  pub c4 : C4
  -- 7 + 10 · 1 + 100 · 2 + 1000 · 3
  pub powers : tag 10 7 (1 ∷ 2 ∷ 3 ∷ []) ≡ 3217
  -- a key and words above 65520
  pub reduces : tag 65531 65528 (65522 ∷ 65523 ∷ 65524 ∷ []) ≡ 3217
  pub zero_key : tag 0 0 (1 ∷ 2 ∷ []) ≡ 0
  pub no_words : tag 9 65522 [] ≡ 1
