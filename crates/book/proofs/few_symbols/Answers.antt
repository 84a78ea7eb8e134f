-- `book::few_symbols` meets its contract: past the end of the bytes p counts as 0.
-- Assumes nothing.
use native.Mathlib.Omega.{arith}
use lib.ListN.{get_or-eq_default}
use Rattle.book.proofs.few_symbols.Goals as goal

pub returns-then-book-lt-GENERATOR_AT : goal.returns-then-book-lt-GENERATOR_AT
returns-then-book-lt-GENERATOR_AT c = rw (get_or-eq_default c.args.book.now 0 {n = 2} (omega arith))
