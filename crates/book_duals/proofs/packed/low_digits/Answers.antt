-- `book_duals::packed::low_digits` meets its contract.
-- Assumes nothing.
use borrow.Author.Tests.{eq-eqb, ne_eqb}
use Rattle.book_duals.specs.Lanes.{low_digits}
use Rattle.book_duals.proofs.packed.low_digits.Goals as goal

pub returns-then-p-eq2 : goal.returns-then-p-eq2
unfolding low_digits
returns-then-p-eq2 c = rw (eq-eqb _ _ c.if-p-eq2.true)

pub returns-else-p-eq2 : goal.returns-else-p-eq2
unfolding low_digits
returns-else-p-eq2 c = rw (ne_eqb _ _ c.if-p-eq2.false)
