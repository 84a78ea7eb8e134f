-- `book_layout::dual_at` meets its contract: 32 records of 256 bytes are few.
-- Assumes nothing.
use native.Mathlib.Nat.{mul-le-mul}
use native.Mathlib.Omega.{arith}
use borrow.Author.Rules.{rules}
use Rattle.book_layout.proofs.dual_at.Goals as goal

pub overflow_mul-result : goal.overflow_mul-result
overflow_mul-result c = search (rules, mul-le-mul c.record-record.ensures.1 c.requires)

pub overflow_add-result-2 : goal.overflow_add-result-2
overflow_add-result-2 c = search (rules, mul-le-mul c.record-record.ensures.1 c.requires)

pub returns : goal.returns
returns c = rw c.record-record.ensures.0 (omega arith)
