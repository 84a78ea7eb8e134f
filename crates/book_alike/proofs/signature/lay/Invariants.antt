-- `book_alike::signature::lay` meets its contract. The invariant: the rows below i are laid.
-- Assumes nothing.
use Rattle.book_alike.specs.Signed.{Rows}
use Rattle.book_alike.proofs.signature.lay.Given as goal

abbrev pub invariant-loop-i : goal.invariant-loop-i
invariant-loop-i s = Rows s.stride s.book s.n s.l s.i s.initial.rows s.rows
