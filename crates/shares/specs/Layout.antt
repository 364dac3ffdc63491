-- What a day is, what tags cover, and where each word of each share (document 01: parcel) stands: for each member in order d share words, n tags, n keys as pairs α, β.
-- Assumes nothing.
use Rattle.std.specs.Prelude.{ℕ, ◌+◌, ◌*◌, Bool, List, ◌∷◌, ◌++◌, get_or}
use Rattle.lists.specs.Checks.{within}
use Rattle.lists.specs.Tabulate.{tab}
use Rattle.members.specs.Members.{size}

-- d is 1 to 64
abbrev pub is_length : ℕ → Bool
is_length d = within 1 64 d

-- a day is 1 to 65520 (document 02, W-205)
abbrev pub is_day : ℕ → Bool
is_day day = within 1 65520 day

-- what the tags of a share are tags of: the day, then the share words
abbrev pub tagged : ℕ → List ℕ → List ℕ
tagged day words = day ∷ words

-- how many words a share has
unfoldable pub width : ℕ → ℕ → ℕ
width t d = d + 3 * size t

-- the places in a share: of share word k, of the tag for member j, and of the key for member j, β after α
abbrev pub word_place : ℕ → ℕ
word_place k = k

abbrev pub tag_place : ℕ → ℕ → ℕ
tag_place d j = d + j

abbrev pub key_place : ℕ → ℕ → ℕ → ℕ
key_place t d j = d + size t + 2 * j

-- a share from its parts: the share words, the tags, the keys
unfoldable pub assembled : List ℕ → List ℕ → List ℕ → List ℕ
assembled words tags keys = words ++ tags ++ keys

-- how many words the shares of the largest station have: t = 15, d = 64
abbrev pub capacity : ℕ
capacity = 4867

-- what stands at place k of member i's share, where `words` are all shares in member order
unfoldable pub word : ℕ → ℕ → List ℕ → ℕ → ℕ → ℕ
word t d words i k = get_or words (i * width t d + k) 0

-- member i's whole share
abbrev pub share : ℕ → ℕ → List ℕ → ℕ → List ℕ
share t d words i = tab (width t d) (word t d words i)

-- member i's share word k, and all its share words
abbrev pub share_word : ℕ → ℕ → List ℕ → ℕ → ℕ → ℕ
share_word t d words i k = word t d words i (word_place k)

unfoldable pub share_words : ℕ → ℕ → List ℕ → ℕ → List ℕ
share_words t d words i = tab d (share_word t d words i)

-- tag(i,j)
unfoldable pub tag_word_at : ℕ → ℕ → List ℕ → ℕ → ℕ → ℕ
tag_word_at t d words i j = word t d words i (tag_place d j)

-- α and β of key(i,j)
unfoldable pub key_α : ℕ → ℕ → List ℕ → ℕ → ℕ → ℕ
key_α t d words i j = word t d words i (key_place t d j)

unfoldable pub key_β : ℕ → ℕ → List ℕ → ℕ → ℕ → ℕ
key_β t d words i j = word t d words i (key_place t d j + 1)
