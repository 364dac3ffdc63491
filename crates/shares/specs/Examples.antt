-- Corners of the layout of shares. Proved in proofs/Examples.antt.
use Rattle.std.specs.Prelude.{◌*◌, ◌≡◌, true, false, [], ◌∷◌}
use Rattle.members.specs.Members.{size}
use Rattle.shares.specs.Layout.{is_day, tagged, width, word, share_words, tag_word_at, key_α, key_β}
use Rattle.shares.specs.Sample.{sample}

pub record Examples : Type 0 where
  -- both ends of the days; 65521 and 65535, which are 0 and 14 modulo p, are none
  pub day_0 : is_day 0 ≡ false
  pub day_1 : is_day 1 ≡ true
  pub day_65520 : is_day 65520 ≡ true
  pub day_65521 : is_day 65521 ≡ false
  pub day_65535 : is_day 65535 ≡ false
  -- the day is the first of the tagged words
  pub day_first : tagged 7 (253 ∷ 254 ∷ []) ≡ 7 ∷ 253 ∷ 254 ∷ []
  -- the longest share, and the largest buffer
  pub longest : width 15 64 ≡ 157
  pub largest : size 15 * width 15 64 ≡ 4867
  -- the sample's words: tag(2,1), key(3,2), the share words of member 3
  pub tag_2_1 : tag_word_at 1 1 (sample 259) 1 0 ≡ 259
  pub key_3_2_α : key_α 1 1 (sample 259) 2 1 ≡ 3
  pub key_3_2_β : key_β 1 1 (sample 259) 2 1 ≡ 2
  pub share_words_hold : share_words 1 1 (sample 259) 2 ≡ 259 ∷ []
  -- d = 2: the second share word, the first tag
  pub second_word : word 1 2 (0 ∷ 1 ∷ 2 ∷ []) 0 1 ≡ 1
  pub first_tag : tag_word_at 1 2 (0 ∷ 1 ∷ 2 ∷ []) 0 0 ≡ 2
