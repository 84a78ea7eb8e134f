-- `book_layout::record_of` meets its contract: each return rewrites with the test that led there.
-- Assumes nothing.
use borrow.Author.Rules.{rules}
use Rattle.book_layout.proofs.record_of.Goals as goal

pub returns-then-long : goal.returns-then-long
returns-then-long c = rw c.if-long.true (search rules)

pub returns-else-long : goal.returns-else-long
returns-else-long c = rw c.if-long.false (search rules)
