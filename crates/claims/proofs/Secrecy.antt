-- What t members know: for each secret of equal length exactly one list of random words, with the same key words, gives them what they hold; so as many in all.
-- Assumes nothing.
use mathlib.Core.Path.{◌≡◌, refl, sym, ap, ◌∙◌, subst}
use mathlib.Core.Bool.{true}
use mathlib.Core.List.{List, [], ◌∷◌}
use Prim.Native.Nat.{ℕ, ◌≤◌, ◌<◌}
use native.Mathlib.Omega.{arith}
use lib.Dec.{lit<, lit≤}
use lib.ListN.{length, get_or}
use Rattle.lists.specs.Tabulate.{tab, all, count, each, concat}
use Rattle.field.specs.Field.{is_field_word}
use Rattle.polynomial.specs.Polynomial.{eval, value}
use Rattle.mac.specs.Tag.{tag}
use Rattle.members.specs.Members.{size, own_points, bit, has, set_of, card}
use Rattle.members.proofs.Masks.{grown_set}
use Rattle.members.proofs.Points.{length_own, own_point}
use Rattle.members.proofs.Words.{size_31}
use Rattle.shares.specs.Layout.{width, assembled, word}
use Rattle.shares.specs.Sample.{sample}
use Rattle.shares.proofs.Places.{word_inside}
use Rattle.decoding.proofs.Points.{own_distinct}
use Rattle.dealing.specs.Dealing.{random_length, polynomial, dealt_α, dealt_β, dealt_words, dealt_tag, dealt_share, dealt_shares, deal}
use Rattle.dealing.specs.Examples.{random5}
use Rattle.dealing.proofs.Laws.{polynomial-zero, length-shares, word-dealt, word_value, field_words, words_field, Acceptable, in_range_accepted}
use Rattle.voting.specs.Votes.{field_share, usable}
use Rattle.reconstruction.specs.Reconstruction.{is_quorum, required, Answered}
use Rattle.claims.specs.Demands.{Dealing, HandedIn, AsDealt, Demand2}
use Rattle.claims.specs.Secrecy.{key_words, Gives, ExactlyOne, Secrecy, PerfectSecrecy, GivesAt, SecrecyAnywhere, random7, shares7, SecrecyInstances}
use Rattle.claims.proofs.Demand2.{demand2}
use Rattle.claims.proofs.Demand3.{in_range, dealt_is}
use Rattle.claims.proofs.Instances.{as_tested, dealt_over}
use Rattle.claims.proofs.Opening.{points_distinct}
use Rattle.claims.proofs.Recoded.{Words, Holders, Other, recoded, no_others, same_keys, recoded_long, recoded_words, recoded_share, returned}

module _ {xs : List ℕ} {t members : ℕ} (H : Holders xs t members) (day : ℕ) where
  -- random words that give the members what they hold are the same, if their key words are
  gives_one : {held secret a b : List ℕ} → Words secret → key_words t (length secret) a ≡ key_words t (length secret) b
      → GivesAt xs t day members held secret a → GivesAt xs t day members held secret b → a ≡ b
  gives_one {held} {secret} {a} {b} small keys ga gb =
      no_others H small (field_words a ga.words) (field_words b gb.words) ga.long gb.long keys
      (λ i k h e l.
      sym (word_value xs t day secret a i k h l)
      ∙ sym ((ga.as_held i h e).same k (word_inside t (length secret) k l))
      ∙ (gb.as_held i h e).same k (word_inside t (length secret) k l)
      ∙ word_value xs t day secret b i k h l)

  -- where the random words give some of the members what they hold, recoded ones give it to them for the other secret
  gives_recoded : {some : ℕ} {held secret other random : List ℕ} → Other t secret other random
      → ((i : ℕ) → i < size t → has some i ≡ true → has members i ≡ true)
      → GivesAt xs t day some held secret random → GivesAt xs t day some held other (recoded xs t members secret other random)
  gives_recoded {some} {held} {secret} {other} {random} c among g =
      let new : List ℕ = recoded xs t members secret other random in
      record {
        long = recoded_long H c;
        words = words_field (recoded_words H c);
        as_held = λ i h e.
            record {
              is_present = e;
              same = λ k l.
                  let m : k < width t (length secret) = subst (λ (d : ℕ). k < width t d) c.as_long l in
                  ap (λ (d : ℕ). word t d held i k) c.as_long
                  ∙ (g.as_held i h e).same k m
                  ∙ word-dealt xs t day secret random i k h m
                  ∙ ap (λ (s : List ℕ). get_or s k 0) (sym (recoded_share H c day i h (among i h e)))
                  ∙ sym (word-dealt xs t day other new i k h l);
            };
      }

  exactly_one : {secret other random : List ℕ} → Other t secret other random
      → ExactlyOne
      (λ r. (key_words t (length other) r ≡ key_words t (length other) random) × GivesAt xs t day members (dealt_shares xs t day secret random) other r)
  exactly_one {secret} {other} {random} c =
      let gives : GivesAt xs t day members (dealt_shares xs t day secret random) other (recoded xs t members secret other random) =
      gives_recoded c (λ i h e. e)
      (record { long = c.random_long; words = words_field c.random_words; as_held = λ i h e. record { is_present = e; same = λ k l. refl } }) in
      record {
        list = recoded xs t members secret other random;
        meets = (same_keys H c, gives);
        only = λ r p. gives_one c.words (p.0 ∙ sym (same_keys H c)) p.1 gives;
      }

pub secrecy_anywhere : SecrecyAnywhere
unfolding SecrecyAnywhere
secrecy_anywhere xs t day members secret other random points nonzero random_long random_words as_long words many =
    exactly_one (record { long = points.long; distinct = points_distinct points; nonzero = λ i h e. nonzero i h e.same; many = many }) day
    (record { as_long = as_long; words = field_words other words; random_words = field_words random random_words; random_long = random_long })

-- Now the members' own points, and what dealing accepts.

own_holders : (t members : ℕ) → t ≤ 15 → card (size t) members ≡ t → Holders (own_points t) t members
own_holders t members high many =
    record {
      long = length_own t;
      distinct = own_distinct t high;
      nonzero = λ i h e. omega (arith, own_point t i h, size_31 t high, e.same);
      many = many;
    }

module _ {t day : ℕ} {secret random buffer : List ℕ} (r : Acceptable t day secret random buffer) {other : List ℕ}
    (as_long : length other ≡ length secret) (words : each is_field_word other ≡ true) where
  -- another secret beside a dealing that is accepted
  beside : Other t secret other random
  beside = record { as_long = as_long; words = field_words other words; random_words = r.random_words; random_long = r.random_length_lem }

  -- dealing accepts it, with any random words that give the members what they hold
  at_gives : {members : ℕ} {held others : List ℕ} → GivesAt (own_points t) t day members held other others → Gives t day members held other others
  at_gives {members} {held} {others} g =
      let dealt : List ℕ = dealt_shares (own_points t) t day other others in
      record {
        dealt = dealt;
        dealing = record {
          buffer = dealt;
          accepted =
              in_range_accepted t day other others dealt
              (record {
                threshold_low = r.threshold_low;
                threshold_high = r.threshold_high;
                length_low = subst (λ (d : ℕ). 1 ≤ d) (sym as_long) r.length_low;
                length_high = subst (λ (d : ℕ). d ≤ 64) (sym as_long) r.length_high;
                day_low = r.day_low;
                day_high = r.day_high;
                random_length_lem = g.long;
                buffer_length = length-shares (own_points t) t day other others;
                secret_words = field_words other words;
                random_words = field_words others g.words;
              });
        };
        as_held = g.as_held;
      }

-- what dealing accepts and gives is what its definition gives at these points
gives_at : {t day members : ℕ} {held secret random : List ℕ} → Gives t day members held secret random
    → GivesAt (own_points t) t day members held secret random
gives_at {t} {day} {members} {held} {secret} {random} g =
    let r = in_range t day secret random g.dealt g.dealing in
    record {
      long = r.random_length_lem;
      words = words_field r.random_words;
      as_held =
          subst (λ (dealt : List ℕ). (i : ℕ) → i < size t → has members i ≡ true → AsDealt t (length secret) members dealt held i)
          (dealt_is t day secret random g.dealt g.dealing) g.as_held;
    }

pub secrecy : Secrecy
unfolding Secrecy
secrecy t day members secret other random dealt dealing as_long words many =
    let r = in_range t day secret random dealt dealing in
    let is : dealt ≡ dealt_shares (own_points t) t day secret random = dealt_is t day secret random dealt dealing in
    let one = exactly_one (own_holders t members r.threshold_high many) day (beside r {other = other} as_long words) in
    record {
      list = one.list;
      meets = (
        search one.meets.0,
        at_gives r {other = other} as_long words (subst (λ (held : List ℕ). GivesAt (own_points t) t day members held other one.list) (sym is) one.meets.1),
      );
      only = λ l p. one.only l (p.0, subst (λ (held : List ℕ). GivesAt (own_points t) t day members held other l) is (gives_at p.1));
    }

-- from one of two secrets to the other and back, where t members have those who hold something among them
module _ (t members some : ℕ) (many : card (size t) members ≡ t) (among : (i : ℕ) → i < size t → has some i ≡ true → has members i ≡ true)
    (day : ℕ) (held secret other : List ℕ) (as_long : length other ≡ length secret) (words : each is_field_word other ≡ true) where
  there : (random : List ℕ) → Gives t day some held secret random → Gives t day some held other (recoded (own_points t) t members secret other random)
  there random g =
      let r = in_range t day secret random g.dealt g.dealing in
      at_gives r as_long words (gives_recoded (own_holders t members r.threshold_high many) day (beside r as_long words) among (gives_at g))

  and-back : (random : List ℕ) → Gives t day some held secret random
      → recoded (own_points t) t members other secret (recoded (own_points t) t members secret other random) ≡ random
  and-back random g =
      let r = in_range t day secret random g.dealt g.dealing in
      returned (own_holders t members r.threshold_high many) r.secret_words (beside r as_long words)

-- a station has room for t members
room : (t : ℕ) → t ≤ size t
unfolding size
room t = omega arith

pub perfect_secrecy : PerfectSecrecy
unfolding PerfectSecrecy
perfect_secrecy t day some held secret other as_long secret_words other_words few =
    let (members, among, many) : (s : ℕ) × ((i : ℕ) → i < size t → has some i ≡ true → has s i ≡ true) × (card (size t) s ≡ t) =
    grown_set (size t) t some few (room t) in
    record {
      to = recoded (own_points t) t members secret other;
      back = recoded (own_points t) t members other secret;
      to_meets = there t members some many among day held secret other as_long other_words;
      back_meets = there t members some many among day held other secret (sym as_long) secret_words;
      there_and_back = and-back t members some many among day held secret other as_long other_words;
      back_and_there = and-back t members some many among day held other secret (sym as_long) secret_words;
    }

-- The instances.

c5 : Dealing 1 1 (250 ∷ []) random5 (sample 259)
unfolding tab each concat eval value tag size own_points width assembled random_length polynomial dealt_α dealt_β dealt_words dealt_tag dealt_share dealt_shares deal
    sample
c5 = dealt_over 1 1 (250 ∷ []) random5 (sample 259) refl

-- what members hold that meet the quorum 2 opens to the secret that was dealt, by demand 2
open_it : (members : ℕ) → HandedIn 1 1 members 2 (sample 259) → (random : List ℕ) → Gives 1 1 members (sample 259) (7 ∷ []) random → ⊥
unfolding Demand2
open_it members handed random g =
    let e : ◌≡◌ {A = List ℕ} (250 ∷ []) (7 ∷ []) =
    ap (λ (a : Answered). a.opened.secret)
    (sym (demand2 1 1 members 2 (250 ∷ []) random5 (sample 259) (sample 259) c5 handed (λ i h p. record { is_present = p; same = λ k l. refl }))
    ∙ demand2 1 1 members 2 (7 ∷ []) random g.dealt (sample 259) g.dealing handed g.as_held) in
    omega (arith, ap (λ (l : List ℕ). get_or l 0 0) e)

-- at the point 0 stands the secret word
point_0 : word 1 1 (dealt_shares (0 ∷ 1 ∷ 2 ∷ []) 1 1 (250 ∷ []) random5) 0 0 ≡ 250
unfolding tab concat eval value tag size width word assembled polynomial dealt_α dealt_β dealt_words dealt_tag dealt_share dealt_shares
point_0 = refl

see_it : (members : ℕ) → has members 0 ≡ true → (random : List ℕ)
    → GivesAt (0 ∷ 1 ∷ 2 ∷ []) 1 1 members (dealt_shares (0 ∷ 1 ∷ 2 ∷ []) 1 1 (250 ∷ []) random5) (7 ∷ []) random → ⊥
unfolding size width
see_it members first random g =
    let e : ◌≡◌ {A = ℕ} 250 7 =
    sym point_0
    ∙ (g.as_held 0 (omega arith) first).same 0 (omega arith)
    ∙ word_value (0 ∷ 1 ∷ 2 ∷ []) 1 1 (7 ∷ []) random 0 0 (omega arith) (omega arith)
    ∙ polynomial-zero 1 (7 ∷ []) random 0 (omega arith) in
    omega arith

pub secrecy_instances : SecrecyInstances
unfolding tab all count each concat eval value tag size own_points bit has set_of card width word assembled sample field_share usable is_quorum required
    random_length polynomial dealt_α dealt_β dealt_words dealt_tag dealt_share dealt_shares deal
secrecy_instances =
    record {
      c5 = c5;
      one_member = refl;
      seven = search (dealt_over);
      share_is_same = (refl, record { dealt = shares7; dealing = search (dealt_over); as_held = search (as_tested) });
      fewer_3 = (refl, record { dealt = dealt_shares (own_points 1) 1 1 (7 ∷ []) (random7 3); dealing = search (dealt_over); as_held = search (as_tested) });
      fewer_4 = (refl, record { dealt = dealt_shares (own_points 1) 1 1 (7 ∷ []) (random7 4); dealing = search (dealt_over); as_held = search (as_tested) });
      more_know = open_it _ (search (lit<, lit≤));
      point_0_knows = see_it _ refl;
    }
