-- The reader's refusal and that of opening are handed on, and the secret that is opened is at the front of its buffer.
-- Assumes nothing.
use Rattle.std.proofs.Common.{rules, arith, ◌≡◌, length, take}
use Rattle.std.proofs.lemmas.List.{length-take-le}
use Rattle.std.proofs.lemmas.Result.{err_from_is_err_and, MatchResult-weaker}
use Rattle.shares.specs.Layout.{capacity}
use Rattle.report.proofs.Opening.{accepted_range, unread_lines, opened_lines, unopened_lines}
use Rattle.report.proofs.open_text.Goals as goal

pub returns-in_err-hand_in : goal.returns-in_err-hand_in
returns-in_err-hand_in c =
    let full : length c.args.words.now ≡ capacity = search rules in
    let p = err_from_is_err_and c.from_residual.result c.from_residual.ensures.1 in
    let refused = MatchResult-weaker c.read.result c.in_err-hand_in.ensures.cases (λ h e. e) (λ k e. search rules) in
    rw (p.1, p.2) (unread_lines _ _ _ full _ _ _ refused c.read.ensures)

pub new-shape-requires : goal.new-shape-requires
new-shape-requires c =
    let full : length c.args.words.now ≡ capacity = search rules in
    let range = accepted_range _ _ _ full _ c.in_ok-hand_in.hand_in c.in_ok-hand_in.ensures.cases c.read.ensures in
    (range.t_low, range.t_high, range.d_low, range.d_high)

pub returns-in_err-opened : goal.returns-in_err-opened
returns-in_err-opened c =
    let full : length c.args.words.now ≡ capacity = search rules in
    let long : length (take c.in_ok-hand_in.hand_in.d c.args.secret.now) ≡ c.in_ok-hand_in.hand_in.d = length-take-le _ _ (omega arith) in
    let p = err_from_is_err_and c.from_residual-in_err-opened.result c.from_residual-in_err-opened.ensures.1 in
    rw (p.1, p.2) (unopened_lines _ _ _ full _ c.in_ok-hand_in.hand_in c.in_ok-hand_in.ensures.cases c.read.ensures c.new-shape.result c.new-shape.ensures.0 c.new-shape.ensures.1
    _ _ long _ c.reconstruct-answer.ensures c.in_err-opened.field-0.0 _ c.in_err-opened.was)

pub returns : goal.returns
returns c =
    let full : length c.args.words.now ≡ capacity = search rules in
    let long : length (take c.in_ok-hand_in.hand_in.d c.args.secret.now) ≡ c.in_ok-hand_in.hand_in.d = length-take-le _ _ (omega arith) in
    opened_lines _ _ _ full _ c.in_ok-hand_in.hand_in c.in_ok-hand_in.ensures.cases c.read.ensures c.new-shape.result c.new-shape.ensures.0 c.new-shape.ensures.1
    _ _ long _ c.reconstruct-answer.ensures c.in_ok-opened.opened _ c.in_ok-opened.was c.reconstruct-answer.auto.secret
