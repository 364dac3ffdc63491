-- Laws of dealing: where each dealt word stands and what it is, and which inputs are accepted. The points may be any list.
-- Assumes nothing.
use mathlib.Core.Path.{◌≡◌, refl, sym, ap, ◌∙◌}
use mathlib.Core.Bool.{true}
use mathlib.Core.List.{List, [], ◌∷◌}
use Prim.Native.Nat.{ℕ, suc, ◌+◌, ◌*◌, ◌≤◌, ◌<◌}
use native.Mathlib.Omega.{arith}
use lib.ListN.{length, get_or, drop, length-take, length-drop}
use lib.Seq.{length-take-le}
use borrow.Author.Tests.{ltb-true, lt-ltb, eqb-true}
use Rattle.lists.specs.Tabulate.{tab, each, concat}
use Rattle.lists.proofs.Every.{Every, none, more, every_map, every_at}
use Rattle.lists.proofs.Tabulate.{length-tab, get_or-tab}
use Rattle.lists.proofs.Blocks.{length-concat, get_or-concat, every_tab, every_concat, every_get_or, each_every, every_each}
use Rattle.lists.proofs.Checks.{within_intro, within_low, within_high}
use Rattle.lists.proofs.Choose.{every_sub, take-sub, drop-sub}
use Rattle.field.specs.Field.{prime, is_field_word}
use Rattle.polynomial.specs.Polynomial.{eval, value}
use Rattle.polynomial.proofs.Evaluation.{value-word}
use Rattle.mac.specs.Tag.{tag}
use Rattle.mac.proofs.Tags.{tag_word}
use Rattle.members.specs.Members.{size, own_points}
use Rattle.shares.specs.Layout.{tagged, width, word, share_word, share_words, tag_word_at, key_α, key_β}
use Rattle.shares.proofs.Assembled.{assembled-length, assembled_every, word_is, share-word_is, share_words_are, tag_is, α_is, β_is}
use Rattle.shares.proofs.Reading.{word_every}
use Rattle.dealing.specs.Dealing.{random_length, polynomial, dealt_α, dealt_β, dealt_words, dealt_tag, dealt_share, dealt_shares, Dealt, deal}
use Rattle.dealing.proofs.Places.{coefficients_inside}
use Rattle.dealing.proofs.Refusals.{dealt, all_accept}

-- The polynomials: at most t + 1 coefficients, and the secret word at 0; with enough random words, t + 1 coefficients, all field words.

pub polynomial_degree : (t : ℕ) (secret random : List ℕ) (k : ℕ) → length (polynomial t secret random k) ≤ suc t
unfolding polynomial
polynomial_degree t secret random k = omega (arith, length-take t (drop (t * k) random))

pub polynomial-zero : (t : ℕ) (secret random : List ℕ) (k : ℕ) → get_or secret k 0 < prime → value (polynomial t secret random k) 0 ≡ get_or secret k 0
unfolding polynomial value eval
polynomial-zero t secret random k h = omega (arith, h)

pub polynomial-length : (t : ℕ) (secret random : List ℕ) → length random ≡ random_length t (length secret)
    → (k : ℕ) → k < length secret → length (polynomial t secret random k) ≡ suc t
unfolding polynomial
polynomial-length t secret random e k h =
    ap suc (length-take-le t (drop (t * k) random) (simp length-drop (omega (arith, coefficients_inside t (length secret) k (length random) e h))))

pub polynomial_words : (t : ℕ) {secret random : List ℕ} → Every (λ a. a < prime) secret → Every (λ a. a < prime) random
    → (k : ℕ) → k < length secret → Every (λ a. a < prime) (polynomial t secret random k)
unfolding polynomial
polynomial_words t {random = random} small field k h =
    more (every_at small k 0 h) (every_sub (take-sub t (drop (t * k) random)) (every_sub (drop-sub (t * k) random) field))

-- Where each word stands.

module _ (xs : List ℕ) (t day : ℕ) (secret random : List ℕ) where
  -- a share's parts
  abbrev words : ℕ → List ℕ
  words i = dealt_words xs t secret random i

  abbrev tags : ℕ → List ℕ
  tags i = tab (size t) (dealt_tag xs t day secret random i)

  abbrev key : ℕ → ℕ → List ℕ
  key i j = dealt_α t (length secret) random i j ∷ dealt_β t (length secret) random i j ∷ []

  abbrev keys : ℕ → List ℕ
  keys i = concat (tab (size t) (key i))

  pub length_words : (i : ℕ) → length (dealt_words xs t secret random i) ≡ length secret
  unfolding dealt_words
  length_words i = length-tab (length secret) (λ k. value (polynomial t secret random k) (get_or xs i 0))

  pub length_tags : (i : ℕ) → length (tab (size t) (dealt_tag xs t day secret random i)) ≡ size t
  length_tags i = length-tab (size t) (dealt_tag xs t day secret random i)

  length_keys : (i : ℕ) → length (keys i) ≡ 2 * size t
  length_keys i = length-concat (size t) 2 (key i) (λ j h. refl) ∙ omega arith

  pub length-share : (i : ℕ) → length (dealt_share xs t day secret random i) ≡ width t (length secret)
  unfolding dealt_share
  length-share i = assembled-length t (length secret) (words i) (tags i) (keys i) (length_words i) (length_tags i) (length_keys i)

  pub length-shares : length (dealt_shares xs t day secret random) ≡ size t * width t (length secret)
  unfolding dealt_shares
  length-shares = length-concat (size t) (width t (length secret)) (dealt_share xs t day secret random) (λ i h. length-share i)

  -- what stands at a place of a member's share
  pub word-dealt : (i k : ℕ) → i < size t → k < width t (length secret)
      → word t (length secret) (dealt_shares xs t day secret random) i k ≡ get_or (dealt_share xs t day secret random i) k 0
  unfolding dealt_shares dealt_share
  word-dealt i k p q = word_is t (length secret) words tags keys length_words length_tags length_keys i p k q

  -- a share word is its polynomial's value at the member's point
  pub word_value : (i k : ℕ) → i < size t → k < length secret
      → share_word t (length secret) (dealt_shares xs t day secret random) i k ≡ value (polynomial t secret random k) (get_or xs i 0)
  unfolding dealt_shares dealt_share dealt_words
  word_value i k p q =
      share-word_is t (length secret) words tags keys length_words length_tags length_keys i p k q
      ∙ get_or-tab (length secret) (λ k. value (polynomial t secret random k) (get_or xs i 0)) k 0 q

  pub words_dealt : (i : ℕ) → i < size t → share_words t (length secret) (dealt_shares xs t day secret random) i ≡ dealt_words xs t secret random i
  unfolding dealt_shares dealt_share
  words_dealt i p = share_words_are t (length secret) words tags keys length_words length_tags length_keys i p

  pub tag-dealt : (i j : ℕ) → i < size t → j < size t
      → tag_word_at t (length secret) (dealt_shares xs t day secret random) i j ≡ dealt_tag xs t day secret random i j
  unfolding dealt_shares dealt_share
  tag-dealt i j p q =
      tag_is t (length secret) words tags keys length_words length_tags length_keys i p j q ∙ get_or-tab (size t) (dealt_tag xs t day secret random i) j 0 q

  -- word k of key(i,j): α at 0, β at 1
  key_word : (i j k m : ℕ) → m ≡ j * 2 + k → j < size t → k < 2 → get_or (keys i) m 0 ≡ get_or (key i j) k 0
  key_word i j k m e q r = ap (λ (m : ℕ). get_or (keys i) m 0) e ∙ get_or-concat (size t) 2 (key i) (λ j h. refl) j k 0 q r

  pub key_α_lem : (i j : ℕ) → i < size t → j < size t → key_α t (length secret) (dealt_shares xs t day secret random) i j ≡ dealt_α t (length secret) random i j
  unfolding dealt_shares dealt_share
  key_α_lem i j p q =
      α_is t (length secret) words tags keys length_words length_tags length_keys i p j q ∙ key_word i j 0 (2 * j) (omega arith) q (omega arith)

  pub key_β_lem : (i j : ℕ) → i < size t → j < size t → key_β t (length secret) (dealt_shares xs t day secret random) i j ≡ dealt_β t (length secret) random i j
  unfolding dealt_shares dealt_share
  key_β_lem i j p q =
      β_is t (length secret) words tags keys length_words length_tags length_keys i p j q ∙ key_word i j 1 (2 * j + 1) (omega arith) q (omega arith)

  -- tag(i,j) in i's share is the tag of the day and i's share words under key(j,i) in j's share
  pub tag_holds_lem : (i j : ℕ) → i < size t → j < size t
      → tag_word_at t (length secret) (dealt_shares xs t day secret random) i j
      ≡ tag (key_α t (length secret) (dealt_shares xs t day secret random) j i) (key_β t (length secret) (dealt_shares xs t day secret random) j i)
      (tagged day (share_words t (length secret) (dealt_shares xs t day secret random) i))
  unfolding dealt_tag
  tag_holds_lem i j p q = tag-dealt i j p q ∙ sym (rw (key_α_lem j i q p, key_β_lem j i q p, words_dealt i p))

  -- Every dealt word is a field word where the random words are.

  share-field : Every (λ a. a < prime) random → (i : ℕ) → Every (λ a. a < prime) (dealt_share xs t day secret random i)
  unfolding dealt_share dealt_words dealt_tag dealt_α dealt_β
  share-field h i =
      assembled_every
      (every_tab (length secret) (λ k. value (polynomial t secret random k) (get_or xs i 0)) (λ k p. value-word (polynomial t secret random k) (get_or xs i 0)))
      (every_tab (size t) (dealt_tag xs t day secret random i)
      (λ j p. tag_word (dealt_α t (length secret) random j i) (dealt_β t (length secret) random j i) (tagged day (dealt_words xs t secret random i))))
      (every_concat (size t) (key i) (λ j p. more (every_get_or h 0 (omega arith) _) (more (every_get_or h 0 (omega arith) _) none)))

  pub word-field : Every (λ a. a < prime) random → (i k : ℕ) → word t (length secret) (dealt_shares xs t day secret random) i k < prime
  unfolding dealt_shares
  word-field h i k =
      word_every t (length secret) i k (omega arith) (every_concat (size t) (dealt_share xs t day secret random) (λ i p. share-field h i))

-- Which inputs are accepted: exactly those in range.

pub record Acceptable (t day : ℕ) (secret random buffer : List ℕ) : Type 0 where
  pub threshold_low : 1 ≤ t
  pub threshold_high : t ≤ 15
  pub length_low : 1 ≤ length secret
  pub length_high : length secret ≤ 64
  pub day_low : 1 ≤ day
  pub day_high : day ≤ 65520
  pub random_length_lem : length random ≡ random_length t (length secret)
  pub buffer_length : length buffer ≡ size t * width t (length secret)
  pub secret_words : Every (λ a. a < prime) secret
  pub random_words : Every (λ a. a < prime) random

-- field words, from the test of each, and back
pub field_words : (ws : List ℕ) → each is_field_word ws ≡ true → Every (λ a. a < prime) ws
field_words ws h = every_map (λ a e. ltb-true a prime e) (each_every is_field_word ws h)

pub words_field : {ws : List ℕ} → Every (λ a. a < prime) ws → each is_field_word ws ≡ true
words_field h = every_each is_field_word (every_map (λ a e. lt-ltb a prime e) h)

module _ (t day : ℕ) (secret random buffer : List ℕ) where
  pub in_range_accepted : Acceptable t day secret random buffer
      → deal t day secret random buffer ≡ record { number = 0; shares = dealt_shares (own_points t) t day secret random }
  in_range_accepted r =
      sym
      (dealt t day secret random buffer
      (record {
        threshold = within_intro 1 15 t r.threshold_low r.threshold_high;
        in_length = within_intro 1 64 (length secret) r.length_low r.length_high;
        is_a_day = within_intro 1 65520 day r.day_low r.day_high;
      })
      r.random_length_lem r.buffer_length
      (words_field r.secret_words) (words_field r.random_words) (dealt_shares (own_points t) t day secret random) refl)

  pub accepted_in_range : (deal t day secret random buffer).number ≡ 0 → Acceptable t day secret random buffer
  accepted_in_range h =
      elim (all_accept t day secret random buffer h) [
        | more p1 (more p2 (more p32 (more p3 (more p4 (more p5 (more p6 none)))))) ↦
            record {
              threshold_low = within_low 1 15 t p1;
              threshold_high = within_high 1 15 t p1;
              length_low = within_low 1 64 (length secret) p2;
              length_high = within_high 1 64 (length secret) p2;
              day_low = within_low 1 65520 day p32;
              day_high = within_high 1 65520 day p32;
              random_length_lem = eqb-true (length random) (random_length t (length secret)) p3;
              buffer_length = eqb-true (length buffer) (size t * width t (length secret)) p4;
              secret_words = field_words secret p5;
              random_words = field_words random p6;
            }
      ]

  pub accepted_shares : (dealt : List ℕ) → deal t day secret random buffer ≡ record { number = 0; shares = dealt }
      → dealt ≡ dealt_shares (own_points t) t day secret random
  accepted_shares dealt h =
      sym (ap (λ (a : Dealt). a.shares) h)
      ∙ ap (λ (a : Dealt). a.shares) (in_range_accepted (accepted_in_range (ap (λ (a : Dealt). a.number) h)))
