-- Where the text fits, its D line and its P lines are written one after the other.
-- Assumes nothing.
use Rattle.std.proofs.Common.{rules}
use Rattle.handin.proofs.WriterChecks.{too_long, first_fits, shares_fit, both_written}
use Rattle.handin.proofs.Source.put.Goals as goal

pub returns-then-text-text_length : goal.returns-then-text-text_length
returns-then-text-text_length c = too_long c.args.self.now.shares.shape _ _ _ _ _ c.text_length.ensures _ c.if-text-text_length.true

pub put_first-requires : goal.put_first-requires
put_first-requires c =
    first_fits c.args.self.now.shares.shape _ _ _ _ _ c.text_length.ensures c.if-text-text_length.false c.new-output.ensures.front c.new-output.ensures.same_bytes

pub put_shares-requires : goal.put_shares-requires
put_shares-requires c =
    shares_fit c.args.self.now.shares.shape _ _ _ _ _ c.text_length.ensures c.if-text-text_length.false c.new-output.ensures.front c.new-output.ensures.same_bytes c.put_first.ensures.written

pub returns : goal.returns
returns c =
    both_written c.args.self.now.shares.shape _ _ _ _ c.new-output.ensures.front c.new-output.ensures.same_bytes c.put_first.ensures.written (search rules) _ c.end.ensures
