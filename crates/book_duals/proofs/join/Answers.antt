-- `book_duals::join` meets its contract. The invariant: b blocks are joined.
-- Assumes nothing.
use native.Mathlib.Omega.{arith}
use Rattle.book_duals.proofs.Joined.{joining_none, joining_more, joining_end}
use borrow.Author.Rules.{rules}
use Rattle.book_duals.proofs.join.Goals as goal

pub loop-b-init : goal.loop-b-init
loop-b-init c = joining_none _ _ _

pub join_block-requires : goal.join_block-requires
join_block-requires c = search (rules, c.loop-b.invariant.window.long)

pub loop-b-preserved : goal.loop-b-preserved
loop-b-preserved c = joining_more c.loop-b.invariant (omega arith) c.join_block.ensures

pub returns : goal.returns
returns c = joining_end c.loop-b.invariant (omega arith)
