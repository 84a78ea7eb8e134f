-- `book_records::block_ok` meets its contract. The invariant: `bad` is the number of places below j that are not below their bound.
-- Assumes nothing.
use native.Mathlib.Omega.{arith}
use Rattle.word_array.proofs.Counted.{counted_none, counted_more, counted-byte, counted_end}
use Rattle.book_records.proofs.Bounded.{none_bad}
use borrow.Author.Rules.{rules}
use Rattle.book_records.proofs.block_ok.Goals as goal

pub loop-j-init : goal.loop-j-init
loop-j-init c = counted_none _ _

pub overflow_add-bad-in-loop-j-3 : goal.overflow_add-bad-in-loop-j-3
overflow_add-bad-in-loop-j-3 c = search (rules, counted-byte c.loop-j.invariant)

pub loop-j-preserved : goal.loop-j-preserved
loop-j-preserved c = counted_more c.loop-j.invariant (omega arith)

pub returns : goal.returns
returns c =
    let s = c.args in
    none_bad s.book.now s.bounds.now s.start s.at (counted_end c.loop-j.invariant (omega arith)).0
