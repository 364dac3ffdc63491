-- `field::are_field_words`: a block that fails decides; after one that passes, what is left does.
-- Assumes nothing.
use Rattle.field.specs.Field.{is_field_word}
use Rattle.lists.proofs.StoredBlocks.{block_failed, block_passed}
use Rattle.field.proofs.are_field_words.Goals as goal

pub returns-then-not-test_all : goal.returns-then-not-test_all
returns-then-not-test_all c = block_failed is_field_word _ _ _ _ _ c.loop-rest.invariant c.split_at.ensures.by_index.0 c.test_all.ensures c.if-not-test_all.true

pub loop-rest-preserved : goal.loop-rest-preserved
loop-rest-preserved c = block_passed is_field_word _ _ _ _ _ c.loop-rest.invariant c.split_at.ensures.by_index.0 c.test_all.ensures c.if-not-test_all.false
