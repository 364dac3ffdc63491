-- The instances of demands 2 and 3, by computing.
-- Assumes nothing.
use Prim.Native.Nat.{ℕ, ◌<◌}
use mathlib.Core.Path.{◌≡◌, refl}
use mathlib.Core.Bool.{Bool, true, ◌&&◌, ◌||◌, not}
use mathlib.Core.List.{List}
use lib.Dec.{eqb, lit<, lit≤}
use borrow.Author.Tests.{eqb-true}
use Rattle.lists.specs.Tabulate.{tab, all, count, keep, each, first, concat, choose}
use Rattle.lists.proofs.Bools.{and_left, and_right}
use Rattle.lists.proofs.Tabulate.{all_elim}
use Rattle.field.specs.Field.{difference, product, power, inverse}
use Rattle.polynomial.specs.Polynomial.{eval, value, linear, slopes, interpolate}
use Rattle.mac.specs.Tag.{tag}
use Rattle.members.specs.Members.{size, own_points, bit, has, set_of, card, members_of}
use Rattle.shares.specs.Layout.{width, assembled, word, share_words, tag_word_at, key_α, key_β}
use Rattle.pruning.specs.Pruning.{votes, round, rounds, survivors}
use Rattle.decoding.specs.Decoding.{surplus, need, agreeing, through, find}
use Rattle.dealing.specs.Dealing.{random_length, polynomial, dealt_α, dealt_β, dealt_words, dealt_tag, dealt_share, dealt_shares, deal}
use Rattle.voting.specs.Votes.{field_share, usable, tag_holds, vote, is_of, accepts, vote_rows, vote_table, count_of, kinds, pairs}
use Rattle.reconstruction.specs.Reconstruction.{unopened, is_quorum, required, at_zero_of, opened_from, finish, reconstruct}
use Rattle.claims.specs.Demands.{Dealing, AsDealt, altered}
use Rattle.claims.specs.Instances.{Instances}

-- member i is present with all its dealt words
abbrev pub same_share : ℕ → ℕ → ℕ → List ℕ → List ℕ → ℕ → Bool
same_share t d present dealt words i = has present i && all (width t d) (λ k. eqb (word t d words i k) (word t d dealt i k))

-- one test of all honest members
pub as_tested : (t d present honest : ℕ) (dealt words : List ℕ) → all (size t) (λ i. not (has honest i) || same_share t d present dealt words i) ≡ true
    → (i : ℕ) → i < size t → has honest i ≡ true → AsDealt t d present dealt words i
as_tested t d present honest dealt words h i l e =
    let p : same_share t d present dealt words i ≡ true = rw e at (all_elim (size t) (λ j. not (has honest j) || same_share t d present dealt words j) h i l) in
    record {
      is_present = and_left (has present i) (all (width t d) (λ k. eqb (word t d words i k) (word t d dealt i k))) p;
      same = λ k m.
          eqb-true (word t d words i k) (word t d dealt i k)
          (all_elim (width t d) (λ k. eqb (word t d words i k) (word t d dealt i k))
          (and_right (has present i) (all (width t d) (λ k. eqb (word t d words i k) (word t d dealt i k))) p) k m);
    }

-- a dealing into a buffer that holds the dealt words already
pub dealt_over : (t day : ℕ) (secret random dealt : List ℕ) → deal t day secret random dealt ≡ record { number = 0; shares = dealt } → Dealing t day secret random dealt
dealt_over t day secret random dealt e = record { buffer = dealt; accepted = e }

pub instances : Instances
unfolding tab all count keep each first concat choose difference product power inverse eval value linear slopes interpolate size own_points bit has
    set_of card members_of surplus need agreeing through find tag width word share_words tag_word_at key_α key_β votes round rounds survivors field_share usable
    tag_holds vote is_of accepts vote_rows vote_table count_of kinds pairs unopened is_quorum required at_zero_of opened_from finish reconstruct
    random_length polynomial dealt_α dealt_β dealt_words assembled dealt_tag dealt_share dealt_shares deal altered
instances =
    record {
      by_default = search (lit<, lit≤, as_tested, dealt_over);
      no_spare = search (lit<, lit≤, as_tested, dealt_over);
      unmet = refl;
      altered_by_quorum = search (lit<, lit≤, as_tested, dealt_over);
      altered_survivor = search (lit<, lit≤, as_tested, dealt_over);
      refused = search (lit<, lit≤, as_tested, dealt_over);
      another_secret = search (lit<, lit≤, as_tested, dealt_over);
      odd_surplus = search (lit<, lit≤, as_tested, dealt_over);
      odd_refused = search (lit<, lit≤, as_tested, dealt_over);
    }
