-- `word_divide::add_block_at` meets its contract.
-- Assumes nothing.
use Rattle.word_divide.proofs.Dividing.{added_written}
use Rattle.word_divide.proofs.add_block_at.Goals as goal

pub returns : goal.returns
returns c = added_written c.block-sum.ensures c.add_block.ensures c.put_block.ensures
