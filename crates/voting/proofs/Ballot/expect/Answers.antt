-- `voting::Ballot::expect`: under the keys that it gathers, the tags of the day and i's share words are those that it has to have.
-- Assumes nothing.
use Rattle.std.proofs.Common.{◌∷◌, List, ℕ, get_or, ap, ◌∙◌, rules}
use Rattle.lists.specs.Tabulate.{tab}
use Rattle.mac.specs.Tag.{tag}
use Rattle.voting.specs.Internal.Ballots.{key_of_α, key_of_β}
use Rattle.voting.proofs.Rows.{tags_expected}
use Rattle.voting.proofs.Ballot.expect.Goals as goal

pub returns : goal.returns
returns c =
    let b = c.args.self.now in
    let alphas = c.gather_keys.new.alphas in
    let betas = c.gather_keys.new.betas in
    let keys = c.gather_keys.ensures.keys (λ k. key_of_α b k c.args.i) (λ k. key_of_β b k c.args.i) (λ k r l called. search rules) in
    tags_expected b c.args.i alphas betas _ keys.0 keys.1
    (c.tags_with_first.ensures
    ∙ ap (λ (ws : List ℕ). tab 32 (λ j. tag (get_or alphas j 0) (get_or betas j 0) (b.day ∷ ws))) c.share_words.ensures)
