-- `book_duals::packed::other_digits` meets its contract.
-- Assumes nothing.
use borrow.Author.Tests.{eq-eqb, ne_eqb}
use Rattle.book_duals.specs.Lanes.{other_digits}
use Rattle.book_duals.proofs.packed.other_digits.Goals as goal

pub returns-then-p-eq2 : goal.returns-then-p-eq2
unfolding other_digits
returns-then-p-eq2 c = rw (eq-eqb _ _ c.if-p-eq2.true)

pub returns-else-p-eq2 : goal.returns-else-p-eq2
unfolding other_digits
returns-else-p-eq2 c = rw (ne_eqb _ _ c.if-p-eq2.false)
