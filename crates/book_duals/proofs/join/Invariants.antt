-- `book_duals::join` meets its contract. The invariant: b blocks are joined.
-- Assumes nothing.
use Rattle.book_duals.proofs.Joined.{Joining}
use Rattle.book_duals.proofs.join.Given as goal

abbrev pub invariant-loop-b : goal.invariant-loop-b
invariant-loop-b l = Joining l.blocks l.word l.initial.left l.b l.left
