-- `pruning::sets`: every row passes the test.
-- Assumes nothing.
use Rattle.std.proofs.Common.{◌∙◌, rules, tests}
use Rattle.std.proofs.lemmas.Iterator.{YieldsList-from_slice}
use Rattle.std.proofs.lemmas.Iterator.Search.{all_from_yields_List}
use Rattle.members.specs.Members.{is_set}
use Rattle.pruning.proofs.Steps.{rows_tested}
use Rattle.pruning.proofs.sets.Goals as goal

pub returns : goal.returns
returns c =
    all_from_yields_List (is_set c.args.n) _ _ c.all.result c.all.ensures.ran (YieldsList-from_slice c.args.rows.now cc) (λ x b q k. search (rules, tests))
    ∙ rows_tested c.args.n c.args.rows.now
