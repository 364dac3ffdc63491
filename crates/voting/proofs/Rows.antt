-- One vote as the code tests it, one row of votes, and all rows, with how many votes there are of each kind.
-- Assumes nothing.
use mathlib.Core.Path.{◌≡◌, refl, sym, ap, ap₂, ◌∙◌}
use mathlib.Core.Bool.{Bool, true, false, ◌&&◌, cond}
use mathlib.Core.List.{List, [], ◌∷◌}
use Prim.Native.Nat.{ℕ, ◌+◌, ◌*◌, ◌≤◌, ◌<◌}
use native.Mathlib.Nat.{mul-le-mul}
use native.Mathlib.Numerals.{add-one}
use native.Mathlib.Omega.{arith}
use lib.Dec.{eqb}
use lib.ListN.{length, get_or, take}
use lib.Seq.{get_or-take}
use Rattle.lists.specs.Tabulate.{tab, each, keep, concat}
use Rattle.lists.proofs.Blocks.{tab_more, concat_more, length-concat}
use Rattle.lists.proofs.Bools.{and_no}
use Rattle.lists.proofs.Loops.{written_last}
use Rattle.lists.proofs.Tabulate.{length-tab, get_or-tab, each-tab}
use Rattle.field.specs.Field.{is_field_word}
use Rattle.mac.specs.Tag.{tag}
use Rattle.members.specs.Members.{size, has, set_of, adding}
use Rattle.members.proofs.Words.{set_of_none, set_of_step}
use Rattle.shares.specs.Layout.{width, word, tag_word_at}
use Rattle.voting.specs.declared.Vote as code
use Rattle.voting.specs.declared.Vote.TheVariants.{Accepted, Mismatched, Unread}
use Rattle.voting.specs.declared.Pairs as code_pairs
use Rattle.voting.specs.declared.Ballot.{Ballot}
use Rattle.voting.specs.declared.Counted.{Counted}
use Rattle.voting.specs.Votes.{field_share, tag_holds, Vote, accepted, mismatched, unread, vote, is_of, accepts, vote_rows, vote_table, Pairs, no_pairs, count_of, kinds, pairs}
use Rattle.voting.specs.Answer.{vote_of, pairs_of}
use Rattle.voting.specs.Internal.Counting.{together, voted, Tests, Counts}
use Rattle.voting.specs.Internal.Ballots.{key_of_α, key_of_β, tagged_of, holds, row_of, votes_on, Row, Expected}
use Rattle.voting.proofs.Counts.{kinds-append, total, kinds_total}
use Rattle.voting.proofs.Meaning.{accepts_is}

-- the test of a whole share
pub share_tested : (t d : ℕ) (words : List ℕ) (i : ℕ) (share : List ℕ) → share ≡ tab (width t d) (word t d words i) → each is_field_word share ≡ field_share t d words i
unfolding field_share
share_tested t d words i share e = ap (each is_field_word) e ∙ each-tab is_field_word (width t d) (word t d words i)

-- the second of two tests, where the first passes
pub second_test : (a b : Bool) → a ≡ true → (c : Bool) → c ≡ b → c ≡ (a && b)
second_test a b h c e = rw h e

-- the tags that member i has to have, from everybody's keys
pub tags_expected : (b : Ballot) (i : ℕ) (alphas betas tags : List ℕ) → take b.shares.shape.n alphas ≡ tab b.shares.shape.n (λ k. key_of_α b k i)
    → take b.shares.shape.n betas ≡ tab b.shares.shape.n (λ k. key_of_β b k i)
    → tags ≡ tab 32 (λ j. tag (get_or alphas j 0) (get_or betas j 0) (tagged_of b i)) → Expected b i tags
tags_expected b i alphas betas tags a z e =
    record {
      tag_of_place =
          λ j l.
          ap (λ (m : List ℕ). get_or m j 0) e
          ∙ get_or-tab 32 (λ j. tag (get_or alphas j 0) (get_or betas j 0) (tagged_of b i)) j 0 (omega (arith, b.shares.shape.few))
          ∙ ap₂ (λ (α β : ℕ). tag α β (tagged_of b i)) (front_of alphas (λ k. key_of_α b k i) j l a) (front_of betas (λ k. key_of_β b k i) j l z);
    }
  where
    front_of : (l : List ℕ) (f : ℕ → ℕ) (j : ℕ) → j < b.shares.shape.n → take b.shares.shape.n l ≡ tab b.shares.shape.n f → get_or l j 0 ≡ f j
    front_of l f j h q = sym (get_or-take b.shares.shape.n l j 0 h) ∙ ap (λ (m : List ℕ). get_or m j 0) q ∙ get_or-tab b.shares.shape.n f j 0 h

-- nobody accepts a member that is not usable
pub empty_row : (t d day able : ℕ) (words : List ℕ) (i : ℕ) → has able i ≡ false → set_of (size t) (λ j. accepts t d day able words j i) ≡ 0
empty_row t d day able words i e =
    set_of_none (size t) (λ j. accepts t d day able words j i)
    (λ j l. accepts_is t d day able words j i ∙ ap (λ (b : Bool). b && has able j && tag_holds t d day words i j) e)

-- a vote by its three tests: is the member usable, is the voter, is the tag the right one
module _ (able i j : ℕ) (b : Bool) where
  pub unusable_member : (a : Bool) → a ≡ has able i → a ≡ false → vote_of Unread ≡ cond (has able i && has able j) (cond b accepted mismatched) unread
  unfolding vote_of
  unusable_member a ea h = sym (rw (sym ea ∙ h))

  pub unusable_voter : (a : Bool) → a ≡ has able j → a ≡ false → vote_of Unread ≡ cond (has able i && has able j) (cond b accepted mismatched) unread
  unfolding vote_of
  unusable_voter a ea h = sym (rw (and_no (has able i) (has able j) (sym ea ∙ h)))

  module _ (a : Bool) (ea : a ≡ has able i) (ha : a ≡ true) (v : Bool) (ev : v ≡ has able j) (hv : v ≡ true) (h : Bool) (told : has able i ≡ true → h ≡ b) where
    pub tag_mismatched : h ≡ false → vote_of Mismatched ≡ cond (has able i && has able j) (cond b accepted mismatched) unread
    unfolding vote_of
    tag_mismatched n = sym (rw (sym ea ∙ ha, sym ev ∙ hv, sym (told (sym ea ∙ ha)) ∙ n))

    pub tag_accepted : h ≡ true → vote_of Accepted ≡ cond (has able i && has able j) (cond b accepted mismatched) unread
    unfolding vote_of
    tag_accepted n = sym (rw (sym ea ∙ ha, sym ev ∙ hv, sym (told (sym ea ∙ ha)) ∙ n))

-- the tags that a usable member has to have tell whether its tag holds
pub told_by_tags : (b : Ballot) (tags : List ℕ) (i j : ℕ) (h : Bool) → j < b.shares.shape.n → Expected b i tags
    → h ≡ eqb (tag_word_at b.shares.shape.t b.shares.shape.d b.shares.words.now i j) (get_or tags j 0) → h ≡ holds b i j
unfolding tag_holds
told_by_tags b tags i j h l x e = e ∙ ap (eqb (tag_word_at b.shares.shape.t b.shares.shape.d b.shares.words.now i j)) (x.tag_of_place j l)

-- no votes are counted
module _ (able i : ℕ) (tells : ℕ → Bool → Type 0) where
  pub counts_none : (p : code_pairs.Pairs) → pairs_of p ≡ no_pairs → Counts able i tells 0 (record { row = 0; pairs = p })
  unfolding set_of tab kinds count_of keep
  counts_none p e holds h = (refl, e)

  -- one vote more
  pub counts_more : (at : Counted) (j : ℕ) → j < 31 → Counts able i tells j at → (v : code.Vote) → Tests able i j (tells j) v → (r : Counted)
      → r.row ≡ cond (is_of accepted (vote_of v)) (adding at.row j) at.row → pairs_of r.pairs ≡ together (pairs_of at.pairs) (kinds (vote_of v ∷ []))
      → Counts able i tells (j + 1) r
  counts_more at j few counts v tested r er ep holds h =
      let votes : ℕ → Vote = λ k. voted able i k (holds k) in
      let before = counts holds (λ k w b. h k w (omega arith)) in
      let ev = tested (holds j) (λ w. h j w (omega arith)) in (
        er
            ∙ ap₂ (λ (w : Vote) (m : ℕ). cond (is_of accepted w) (adding m j) m) ev before.0
            ∙ set_of_step j (λ k. is_of accepted (votes k)) (is_of accepted (votes j)) (omega arith) refl,
        ep
            ∙ ap₂ (λ (p : Pairs) (w : Vote). together p (kinds (w ∷ []))) before.1 ev
            ∙ sym (kinds-append (tab j votes) (votes j ∷ []))
            ∙ ap kinds (sym (tab_more j votes))
            ∙ ap (λ (m : ℕ). kinds (tab m votes)) (sym (add-one j)),
      )

-- one vote more is one more of all kinds together
pub total_more : (p r : code_pairs.Pairs) (v : code.Vote) → pairs_of r ≡ together (pairs_of p) (kinds (vote_of v ∷ [])) → total (pairs_of r) ≡ total (pairs_of p) + 1
total_more p r v e = omega (arith, ap total e, kinds_total (vote_of v ∷ []))

-- a row that is counted by tests which tell of a usable member whether its tags hold
pub row_counted : (b : Ballot) (i : ℕ) (tells : ℕ → Bool → Type 0) (r : Counted) → Counts b.able i tells b.shares.shape.n r
    → ((j : ℕ) (h : Bool) → j < b.shares.shape.n → has b.able i ≡ true → tells j h → h ≡ holds b i j) → Row b i r
unfolding accepts vote
row_counted b i tells r counts told =
    let all = counts (holds b i) told in
    record {
      row_value = all.0 ∙ ap (λ (n : ℕ). set_of n (λ j. accepts b.shares.shape.t b.shares.shape.d b.day b.able b.shares.words.now j i)) b.shares.shape.members;
      pairs_value = all.1 ∙ ap (λ (n : ℕ). kinds (tab n (λ j. vote b.shares.shape.t b.shares.shape.d b.day b.able b.shares.words.now j i))) b.shares.shape.members;
    }

module _ (b : Ballot) where
  abbrev on : ℕ → List Vote
  on = votes_on b

  -- of the first i members the votes are counted: of none
  pub filling_first : (p : code_pairs.Pairs) → pairs_of p ≡ no_pairs → pairs_of p ≡ kinds (concat (tab 0 on))
  unfolding tab concat kinds count_of keep
  filling_first p e = e

  module _ (p : code_pairs.Pairs) (i : ℕ) (so_far : pairs_of p ≡ kinds (concat (tab i on))) where
    module _ (q : code_pairs.Pairs) (eq : pairs_of q ≡ kinds (on i)) where
      -- there is room for the sum
      pub filling_room : i < b.shares.shape.n → (p.accepted + q.accepted ≤ 65535) × (p.mismatched + q.mismatched ≤ 65535) × (p.unread + q.unread ≤ 65535)
      filling_room less =
          let s = b.shares.shape in
          let n : ℕ = size s.t in
          let few' : n ≤ 31 = omega (arith, s.few, s.members) in
          let e : total (pairs_of p) ≡ i * n =
          ap total so_far ∙ kinds_total (concat (tab i on)) ∙ length-concat i n on (λ k l. length-tab n (λ j. vote s.t s.d b.day b.able b.shares.words.now j k)) in
          let g : total (pairs_of q) ≡ n = ap total eq ∙ kinds_total (on i) ∙ length-tab n (λ j. vote s.t s.d b.day b.able b.shares.words.now j i) in
          let m : i * n ≤ 31 * 31 = mul-le-mul {n₂ = 31} {m₂ = 31} (omega (arith, less, s.few)) few' in
          (omega (arith, e, g, m, few'), omega (arith, e, g, m, few'), omega (arith, e, g, m, few'))

      -- one member more
      pub filling_next : (r : code_pairs.Pairs) → pairs_of r ≡ together (pairs_of p) (pairs_of q) → pairs_of r ≡ kinds (concat (tab (i + 1) on))
      filling_next r er =
          er
          ∙ ap₂ together so_far eq
          ∙ sym (kinds-append (concat (tab i on)) (on i))
          ∙ ap kinds (sym (concat_more i on))
          ∙ ap (λ (m : ℕ). kinds (concat (tab m on))) (sym (add-one i))

    -- all of them
    pub pairs_last : i ≡ b.shares.shape.n → pairs_of p ≡ pairs b.shares.shape.t b.shares.shape.d b.day b.able b.shares.words.now
    unfolding pairs vote_table
    pairs_last e = so_far ∙ ap (λ (m : ℕ). kinds (concat (tab m on))) (e ∙ b.shares.shape.members)

  pub rows_last : (rows : List ℕ) (i : ℕ) → length rows ≡ b.shares.shape.n → b.shares.shape.n ≡ i → take i rows ≡ tab i (row_of b)
      → rows ≡ vote_rows b.shares.shape.t b.shares.shape.d b.day b.able b.shares.words.now
  unfolding vote_rows
  rows_last rows i long e h = written_last (row_of b) rows b.shares.shape.n i long e h ∙ ap (λ (m : ℕ). tab m (row_of b)) b.shares.shape.members
