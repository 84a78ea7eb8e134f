-- `book_records::body_ok` meets its contract. The invariant: `ok` says whether the places of the first b blocks are below their bounds.
-- Assumes nothing.
use native.Mathlib.Omega.{arith}
use Rattle.book_records.proofs.Bounded.{bounded_none, bounded_more, bounded_end, bounds_room}
use borrow.Author.Rules.{rules}
use Rattle.book_records.proofs.body_ok.Goals as goal

pub loop-b-init : goal.loop-b-init
loop-b-init c = bounded_none _ _ _ _

pub overflow_mul-b : goal.overflow_mul-b
overflow_mul-b c = let h = c.requires in search (rules, bounds_room h.1)

pub block_ok-good-requires : goal.block_ok-good-requires
block_ok-good-requires c = let h = c.requires in search (rules, bounds_room h.1)

pub loop-b-preserved : goal.loop-b-preserved
loop-b-preserved c = bounded_more c.loop-b.invariant (omega arith) c.block_ok-good.ensures

pub returns : goal.returns
returns c = let h = c.requires in bounded_end c.loop-b.invariant (omega arith) h.1 h.0
