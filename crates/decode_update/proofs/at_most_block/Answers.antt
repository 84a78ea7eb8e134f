-- `decode_update::at_most_block` meets its contract. The invariant: `count` is the number of those below place j of the block that are at most x.
-- Assumes nothing.
use native.Mathlib.Omega.{arith}
use Rattle.word_array.proofs.Counted.{counted_none, counted_more, counted_end}
use Rattle.decode_update.proofs.Counts.{counted_fits}
use borrow.Author.Rules.{rules}
use Rattle.decode_update.proofs.at_most_block.Goals as goal

pub loop-j-init : goal.loop-j-init
loop-j-init c = counted_none _ _

pub overflow_add-count-in-loop-j : goal.overflow_add-count-in-loop-j
overflow_add-count-in-loop-j c = search (rules, counted_fits c.loop-j.invariant)

pub loop-j-preserved : goal.loop-j-preserved
loop-j-preserved c = counted_more c.loop-j.invariant (omega arith)

pub returns : goal.returns
returns c = counted_end c.loop-j.invariant (omega arith)
