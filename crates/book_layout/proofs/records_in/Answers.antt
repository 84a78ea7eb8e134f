-- `book_layout::records_in` meets its contract: each return rewrites with the test that led there.
-- Assumes nothing.
use Rattle.book_layout.proofs.records_in.Goals as goal

pub returns-then-long : goal.returns-then-long
returns-then-long c = rw c.if-long.true

pub returns-else-long : goal.returns-else-long
returns-else-long c = rw c.if-long.false
