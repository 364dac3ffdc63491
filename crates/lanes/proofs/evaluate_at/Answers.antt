-- `lanes::evaluate_at`: one word more, and eight words more; at the end they are all the words.
-- Assumes nothing.
use Rattle.std.proofs.Common.{◌*◌, ◌/◌, ◌++◌, length, map, reverse, drop, sym, ap, ◌∙◌, append_assoc}
use Rattle.std.proofs.lemmas.Iterator.Adapters.{YieldsList-from_rev_slice}
use Rattle.std.proofs.lemmas.Iterator.Consumers.{YieldsList-turn, YieldsList-end}
use Rattle.std.proofs.lemmas.List.{reverse-reverse}
use Rattle.lists.specs.Tabulate.{concat}
use Rattle.lanes.proofs.Values.{values_at, values_none, values_one, values_eight, eights_whole, eight_long, one_more}
use Rattle.lanes.proofs.evaluate_at.Goals as goal

pub loop-word-init : goal.loop-word-init
loop-word-init c = values_none c.args.points.now

pub loop-word-preserved : goal.loop-word-preserved
loop-word-preserved c =
    values_one _ _ _ _ _ c.loop-word.invariant c.one.ensures
    ∙ ap (λ ws. values_at ws c.args.points.now) (sym (one_more (λ w. w.now) c.loop-word.yielded c.in-Some.word))

pub loop-eight-init : goal.loop-eight-init
unfolding concat
loop-eight-init c =
    let odd = c.as_chunks.result.1.now in
    let all = (YieldsList-end (YieldsList-from_rev_slice odd cc) c.loop-word.yielded _ c.loop-word.yielded_by _ _ c.in-None.is c.next.ensures.steps).0 in
    c.loop-word.invariant ∙ ap (λ ws. values_at ws c.args.points.now) (ap reverse all ∙ reverse-reverse odd ∙ c.as_chunks.ensures.back)

pub loop-eight-preserved : goal.loop-eight-preserved
unfolding concat
loop-eight-preserved c =
    let words = c.args.words.now in
    let eights = c.as_chunks.result.0.now in
    let rest = concat (reverse (map (λ e. e.now) c.loop-eight.yielded)) in
    let odd = drop (length words / 8 * 8) words in
    let turn = YieldsList-turn (YieldsList-from_rev_slice eights cc) c.loop-eight.yielded _ c.loop-eight.yielded_by _ _ c.in-Some-eight.eight c.in-Some-eight.is c.next-in-loop-eight.ensures.steps in
    let long = eight_long words eights c.in-Some-eight.eight.now _ c.as_chunks.ensures.front c.as_chunks.ensures.front_len turn in
    values_eight c.in-Some-eight.eight.now (rest ++ odd) c.args.points.now _ _ _ long c.powers.ensures c.loop-eight.invariant c.block.ensures
    ∙ ap (λ ws. values_at ws c.args.points.now)
    (sym (append_assoc c.in-Some-eight.eight.now rest odd) ∙ ap (λ es. concat es ++ odd) (sym (one_more (λ e. e.now) c.loop-eight.yielded c.in-Some-eight.eight)))

pub returns : goal.returns
returns c =
    let words = c.args.words.now in
    let eights = c.as_chunks.result.0.now in
    let all = (YieldsList-end (YieldsList-from_rev_slice eights cc) c.loop-eight.yielded _ c.loop-eight.yielded_by _ _ c.in-None-eight.is c.next-in-loop-eight.ensures.steps).0 in
    c.loop-eight.invariant
    ∙ ap (λ ws. values_at ws c.args.points.now)
    (ap (λ es. concat es ++ drop (length words / 8 * 8) words) (ap reverse all ∙ reverse-reverse eights ∙ c.as_chunks.ensures.front) ∙ eights_whole (length words / 8) words)
