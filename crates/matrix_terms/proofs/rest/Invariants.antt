-- `matrix_terms::rest` meets its contract. The invariant: the first i rows from 1 on are subtracted.
-- Assumes nothing.
use Rattle.matrix_terms.proofs.RowLeft.{RowsLeft}
use Rattle.matrix_terms.proofs.rest.Given as goal

abbrev pub invariant-loop-i : goal.invariant-loop-i
invariant-loop-i l = RowsLeft l.m l.n l.rows l.all l.i l.left
