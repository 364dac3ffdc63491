-- What the code puts into a share: the words that it writes, and the parts one after the other.
-- Assumes nothing.
use Rattle.std.proofs.Common.{◌≡◌, ℕ, zero, suc, ◌+◌, ◌-◌, ◌*◌, ◌<◌, ◌≤◌, List, [], ◌∷◌, ◌++◌, length, take, drop, refl, sym, ap, ap₂, ◌∙◌, append_assoc, add-one, arith}
use Rattle.std.proofs.Math.ListN.{get_or}
use Rattle.std.proofs.Math.Seq.{drop-cons}
use Rattle.std.proofs.lemmas.List.{get_or-take, take_all}
use Rattle.std.proofs.lemmas.Slice.{take-put_mid}
use borrow.Rule.Slice.PartMut.{put_mid}
use Rattle.lists.specs.Tabulate.{tab, concat}
use Rattle.lists.proofs.Tabulate.{get_or-tab, tab_ext}
use Rattle.lists.proofs.Blocks.{concat_more}
use Rattle.mac.specs.Tag.{tag}
use Rattle.members.specs.Members.{size}
use Rattle.shares.specs.Layout.{width, assembled}
use Rattle.shares.specs.declared.Shape.{Shape}
use Rattle.shares.proofs.Places.{row_inside}
use Rattle.dealing.specs.Dealing.{random_length, dealt_α, dealt_β, dealt_words, dealt_tag, dealt_share}
use Rattle.dealing.specs.Internal.Steps.{Supplied, KeyAt, words_at, tag_of, tags_of, keys_of}
use Rattle.dealing.proofs.Laws.{length-share}
use Rattle.dealing.proofs.Places.{α_there, β_there}

-- what stands at the place of a key
pub ruleset keys = (α_there, β_there)

-- the pair of words at an even distance from a place
abbrev pair : List ℕ → ℕ → ℕ → List ℕ
pair l from j = get_or l (from + 2 * j) 0 ∷ get_or l (from + 2 * j + 1) 0 ∷ []

pair_more : (l : List ℕ) (from n : ℕ) → from + 2 * suc n ≤ length l → concat (tab n (pair l (from + 2))) ≡ take (2 * n) (drop (from + 2) l)
    → concat (tab (suc n) (pair l from)) ≡ take (2 * suc n) (drop from l)
unfolding tab concat
pair_more l from n h rest =
    let α : from < length l = omega arith in
    let β : suc from < length l = omega arith in
    let shifted : tab n (λ j. pair l from (suc j)) ≡ tab n (pair l (from + 2)) =
    tab_ext n (λ j. pair l from (suc j)) (pair l (from + 2)) (λ j b. ap (λ (p : ℕ). get_or l p 0 ∷ get_or l (p + 1) 0 ∷ []) {y = from + 2 + 2 * j} (omega arith)) in
    let two : drop from l ≡ get_or l from 0 ∷ get_or l (suc from) 0 ∷ drop (suc (suc from)) l =
    drop-cons l from 0 α ∙ ap (λ (r : List ℕ). get_or l from 0 ∷ r) (drop-cons l (suc from) 0 β) in
    let α_place : from + 2 * 0 ≡ from = omega arith in
    let β_place : from + 2 * 0 + 1 ≡ suc from = omega arith in
    let long : 2 * suc n ≡ suc (suc (2 * n)) = omega arith in
    ap₂ (λ (p q : ℕ). get_or l p 0 ∷ get_or l q 0 ∷ concat (tab n (λ j. pair l from (suc j)))) α_place β_place
    ∙ ap (λ (r : List ℕ). get_or l from 0 ∷ get_or l (suc from) 0 ∷ r) (ap concat shifted ∙ rest ∙ ap (λ (p : ℕ). take (2 * n) (drop p l)) {y = suc (suc from)} (omega arith))
    ∙ sym (ap₂ (λ (m : ℕ) (r : List ℕ). take m r) long two)

-- pairs that stand one after the other
pairs : (l : List ℕ) (from n : ℕ) → from + 2 * n ≤ length l → concat (tab n (pair l from)) ≡ take (2 * n) (drop from l)
unfolding tab concat
pairs l from zero h = refl
pairs l from (suc n) h = pair_more l from n h (pairs l (from + 2) n (omega arith))

module _ (s : Shape) (secret random : List ℕ) (i from : ℕ) (given : Supplied s secret random) (h : i < s.n) (at : KeyAt s i 0 from) where
  -- member i's keys are among the random words
  pub keys_inside : from + 2 * s.n ≤ length random
  unfolding random_length
  keys_inside =
      let row : i * size s.t + size s.t ≤ size s.t * size s.t = row_inside i (size s.t) (size s.t) (omega (arith, s.members)) in
      omega (arith, at.stands, row, given.random_long, s.members)

  -- and stand there one after the other
  pub keys_stand : (m : ℕ) → m ≡ 2 * s.n → take m (drop from random) ≡ keys_of s.t s.d random i
  unfolding keys_of dealt_α dealt_β
  keys_stand m e =
      ap (λ (k : ℕ). take k (drop from random)) e
      ∙ sym (pairs random from s.n keys_inside)
      ∙ ap (λ (m : ℕ). concat (tab m (pair random from))) s.members
      ∙ ap concat
      (tab_ext (size s.t) (pair random from) (λ j. dealt_α s.t s.d random i j ∷ dealt_β s.t s.d random i j ∷ [])
      (λ j b. ap (λ (p : ℕ). get_or random p 0 ∷ get_or random (p + 1) 0 ∷ []) {y = s.t * s.d + 2 * (i * size s.t + j)} (omega (arith, at.stands))))

-- for the keys that are copied
pub ruleset member_keys = (keys_inside, keys_stand)

-- the first n of m words
take_tab : (n m : ℕ) (f : ℕ → ℕ) → n ≤ m → take n (tab m f) ≡ tab n f
unfolding tab
take_tab zero m f h = refl
take_tab (suc n) zero f h = absurd (omega arith)
take_tab (suc n) (suc m) f h = ap (λ (r : List ℕ). f 0 ∷ r) (take_tab n m (λ i. f (suc i)) (omega arith))

-- a gathered word
gathered : (l : List ℕ) (n : ℕ) (f : ℕ → ℕ) → take n l ≡ tab n f → (j : ℕ) → j < n → get_or l j 0 ≡ f j
gathered l n f e j h = sym (get_or-take n l j 0 h) ∙ ap (λ (r : List ℕ). get_or r j 0) e ∙ get_or-tab n f j 0 h

-- the tags under the keys that are gathered
pub tags_made : (s : Shape) (day i : ℕ) (random words alphas betas made : List ℕ)
    → take s.n alphas ≡ tab s.n (λ k. dealt_α s.t s.d random k i) → take s.n betas ≡ tab s.n (λ k. dealt_β s.t s.d random k i)
    → made ≡ tab 32 (λ j. tag (get_or alphas j 0) (get_or betas j 0) (day ∷ words)) → take s.n made ≡ tags_of s.t s.d day random i words
unfolding tags_of tag_of
tags_made s day i random words alphas betas made a b e =
    let under : ℕ → ℕ = λ j. tag (get_or alphas j 0) (get_or betas j 0) (day ∷ words) in
    ap (λ (l : List ℕ). take s.n l) e
    ∙ take_tab s.n 32 under (omega (arith, s.few))
    ∙ tab_ext s.n under (λ j. tag_of s.t s.d day random i words j)
    (λ j h. ap₂ (λ (α β : ℕ). tag α β (day ∷ words)) (gathered alphas s.n _ a j h) (gathered betas s.n _ b j h))
    ∙ ap (λ (n : ℕ). tab n (λ j. tag_of s.t s.d day random i words j)) s.members

-- a share from its parts
pub share_built : (xs : List ℕ) (t d day i : ℕ) (secret random words tags keys : List ℕ) → length secret ≡ d
    → words ≡ words_at t secret random (get_or xs i 0) → tags ≡ tags_of t d day random i words → keys ≡ keys_of t d random i
    → words ++ (tags ++ keys) ≡ dealt_share xs t day secret random i
unfolding dealt_share dealt_words dealt_tag words_at tags_of tag_of keys_of assembled
share_built xs t d day i secret random words tags keys long w g k =
    let own : List ℕ = words_at t secret random (get_or xs i 0) in
    let own_tags : List ℕ = tags_of t (length secret) day random i own in
    let own_keys : List ℕ = keys_of t (length secret) random i in
    let g' : tags ≡ own_tags = g ∙ ap₂ (λ (n : ℕ) (ws : List ℕ). tags_of t n day random i ws) (sym long) w in
    let k' : keys ≡ own_keys = k ∙ ap (λ (n : ℕ). keys_of t n random i) (sym long) in
    ap₂ (λ (a b : List ℕ). a ++ b) w (ap₂ (λ (a b : List ℕ). a ++ b) g' k') ∙ sym (append_assoc own own_tags own_keys)

-- one share more
pub shares_more : (f : ℕ → List ℕ) (w i m : ℕ) (l share : List ℕ) → m ≡ (i + 1) * w → i * w + w ≤ length l → length (f i) ≡ w
    → take (i * w) l ≡ concat (tab i f) → share ≡ f i → take m (put_mid (i * w) (i * w + w - i * w) l share) ≡ concat (tab (i + 1) f)
shares_more f w i m l share em room long so_far e =
    take-put_mid (i * w) _ l share m (omega (arith, ap length e)) (omega arith)
    ∙ ap₂ (λ (a b : List ℕ). a ++ b) so_far e
    ∙ sym (ap (λ (k : ℕ). concat (tab k f)) (add-one i) ∙ concat_more i f)

-- all shares
pub shares_done : (f : ℕ → List ℕ) (w n i m : ℕ) (l : List ℕ) → length l ≡ n * w → i ≡ n → n ≡ m → take (i * w) l ≡ concat (tab i f) → l ≡ concat (tab m f)
shares_done f w n i m l long ei en all =
    sym (take_all (i * w) l (omega (arith, long ∙ ap (λ (k : ℕ). k * w) (sym ei)))) ∙ all ∙ ap (λ (k : ℕ). concat (tab k f)) (ei ∙ en)

-- as long as the shape says
pub share_long : (s : Shape) (xs : List ℕ) (day i : ℕ) (secret random : List ℕ) → Supplied s secret random
    → length (dealt_share xs s.t day secret random i) ≡ s.width
share_long s xs day i secret random given =
    length-share xs s.t day secret random i ∙ ap (width s.t) given.secret_long ∙ sym s.share
