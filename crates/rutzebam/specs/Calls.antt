-- What a caller in C finds after a call, as the answers of the definitions: the number that is returned (the rules', 0 when it is
-- done) and what stands in each lent place.
-- Assumes nothing.
use Rattle.std.specs.Prelude.{ℕ, List, get_or}
use Rattle.pruning.specs.Pruning.{Pruned}
use Rattle.decoding.specs.Decoding.{Decoded}
use Rattle.dealing.specs.Dealing.{Dealt}
use Rattle.voting.specs.Votes.{Pairs}
use Rattle.reconstruction.specs.Reconstruction.{Answered}
use Rattle.handin.specs.Reader.{HandIn}
use Rattle.handin.specs.Writer.{HandInText}

abbrev pub dealt : ℕ → List ℕ → Dealt
dealt number shares = record { number = number; shares = shares }

-- three counts in one place: accepted, mismatched, unread
abbrev pub pairs_in : List ℕ → Pairs
pairs_in place = record { accepted = get_or place 0 0; mismatched = get_or place 1 0; unread = get_or place 2 0 }

abbrev pub opened : ℕ → ℕ → ℕ → List ℕ → List ℕ → Answered
opened number survivors agreeing pairs secret =
    record {
      opened = record { number = number; survivors = survivors; agreeing = agreeing; secret = secret };
      pairs = pairs_in pairs;
    }

abbrev pub pruned : ℕ → ℕ → Pruned
pruned number survivors = record { number = number; survivors = survivors }

abbrev pub decoded : ℕ → List ℕ → Decoded
decoded number coefficients = record { number = number; coefficients = coefficients }

abbrev pub hand_in : ℕ → ℕ → ℕ → ℕ → ℕ → ℕ → List ℕ → HandIn
hand_in number t d quorum day present words =
    record { number = number; t = t; d = d; quorum = quorum; day = day; present = present; words = words }

abbrev pub hand_in_text : ℕ → ℕ → List ℕ → HandInText
hand_in_text number count buffer = record { number = number; count = count; buffer = buffer }
