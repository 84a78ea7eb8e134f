-- `decode_update::take_row` meets its contract. The invariant: the places below j have taken the row, the others are as they were.
-- Assumes nothing.
use Rattle.decode_update.proofs.Taking.{taking_none, taking-more, taking-end}
use borrow.Author.Rules.{rules}
use Rattle.decode_update.proofs.take_row.Goals as goal

pub loop-j-init : goal.loop-j-init
loop-j-init c = taking_none _ _ _ _

pub loop-j-preserved : goal.loop-j-preserved
loop-j-preserved c =
    taking-more _ _ _ _ c.loop-j.invariant (search rules) (search rules) (search rules) c.max.ensures c.holder.ensures

pub returns : goal.returns
returns c = taking-end _ _ _ _ c.loop-j.invariant (search rules)
