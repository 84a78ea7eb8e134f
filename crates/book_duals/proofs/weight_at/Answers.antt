-- `book_duals::weight_at` meets its contract. The invariant: `count` is the number of nonzero bytes in b blocks.
-- Assumes nothing.
use native.Mathlib.Omega.{arith}
use Rattle.book_duals.proofs.Weights.{weighed_none, weighed_le, weighed_more, weighed_end}
use borrow.Author.Rules.{rules}
use Rattle.book_duals.proofs.weight_at.Goals as goal

pub loop-b-init : goal.loop-b-init
loop-b-init c = weighed_none _ _ _

pub overflow_add-count : goal.overflow_add-count
overflow_add-count c = search (rules, weighed_le c.loop-b.invariant)

pub loop-b-preserved : goal.loop-b-preserved
loop-b-preserved c = weighed_more c.loop-b.invariant (omega arith) c.weight_block.ensures.0

pub returns : goal.returns
returns c = weighed_end c.loop-b.invariant (omega arith)
