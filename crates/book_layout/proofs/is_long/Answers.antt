-- `book_layout::is_long` meets its contract: a byte past the end reads as 0.
-- Assumes nothing.
use native.Mathlib.Omega.{arith}
use lib.ListN.{get_or-eq_default}
use Rattle.book_layout.proofs.is_long.Goals as goal

pub returns-then-book-le-GENERATOR_AT : goal.returns-then-book-le-GENERATOR_AT
returns-then-book-le-GENERATOR_AT c = rw (get_or-eq_default c.args.book.now 0 {n = 3} (omega arith))
