-- `book_alike::signature::times` meets its contract. The invariant: `found` is the number of those below place m that are x.
-- Assumes nothing.
use native.Mathlib.Omega.{arith}
use Rattle.word_array.proofs.Counted.{counted_none, counted_more, counted_end}
use Rattle.book_alike.specs.Signed.{times_of}
use Rattle.book_alike.proofs.Differing.{counted_fits}
use borrow.Author.Rules.{rules}
use Rattle.book_alike.proofs.signature.times.Goals as goal

pub loop-m-init : goal.loop-m-init
loop-m-init c = counted_none _ _

pub overflow_add-found : goal.overflow_add-found
overflow_add-found c = search (rules, counted_fits c.loop-m.invariant (search rules) (omega arith))

pub loop-m-preserved : goal.loop-m-preserved
loop-m-preserved c = counted_more c.loop-m.invariant (omega arith)

pub returns : goal.returns
unfolding times_of
returns c = counted_end c.loop-m.invariant (omega arith)
