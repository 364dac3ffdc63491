-- `decoding::field_words`: every value with its place passes the test.
-- Assumes nothing.
use Rattle.std.proofs.Common.{ℕ, Bool, ◌||◌, not, ◌∙◌, rules, tests}
use Rattle.std.proofs.lemmas.Iterator.{YieldsList-from_slice}
use Rattle.std.proofs.lemmas.Iterator.Consumers.{YieldsList-from_enumerate}
use Rattle.std.proofs.lemmas.Iterator.Search.{all_from_yields_List}
use Rattle.field.specs.Field.{is_field_word}
use Rattle.members.specs.Members.{has}
use Rattle.decoding.proofs.Enumerated.{all_enumerated}
use Rattle.decoding.proofs.field_words.Goals as goal

pub returns : goal.returns
returns c =
    let test : ℕ × ℕ → Bool = λ p. not (has c.args.set p.0) || is_field_word p.1 in
    all_from_yields_List test _ _ _ c.all.ensures.ran (YieldsList-from_enumerate (YieldsList-from_slice c.args.values.now cc) cc)
    (λ x b q k. search (rules, tests))
    ∙ all_enumerated test 0 c.args.values.now
