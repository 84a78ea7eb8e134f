-- `book_duals::weight_at` meets its contract. The invariant: `count` is the number of nonzero bytes in b blocks.
-- Assumes nothing.
use Rattle.book_duals.proofs.Weights.{Weighed}
use Rattle.book_duals.proofs.weight_at.Given as goal

abbrev pub invariant-loop-b : goal.invariant-loop-b
invariant-loop-b l = Weighed l.book l.start l.blocks l.b l.count
