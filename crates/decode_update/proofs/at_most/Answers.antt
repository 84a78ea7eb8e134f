-- `decode_update::at_most` meets its contract. The invariant: `count` is the number of those of the first b blocks that are at most x.
-- Assumes nothing.
use native.Mathlib.Omega.{arith}
use Rattle.decode_update.specs.Rule.{at_most}
use Rattle.decode_update.proofs.Counts.{blocked_none, blocked_more, blocked_end}
use Rattle.decode_update.proofs.at_most.Goals as goal

pub loop-b-init : goal.loop-b-init
loop-b-init c = blocked_none _ _

pub loop-b-preserved : goal.loop-b-preserved
loop-b-preserved c = blocked_more c.loop-b.invariant (omega arith) c.at_most_block-count.ensures

pub returns : goal.returns
unfolding at_most
returns c = blocked_end c.loop-b.invariant (omega arith)
