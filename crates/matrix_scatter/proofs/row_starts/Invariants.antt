-- `matrix_scatter::row_starts` meets its contract. The invariant: the starts of the symbols below c are stored.
-- Assumes nothing.
use Rattle.spec_range.proofs.Loop.{Held}
use Rattle.matrix_scatter.proofs.Rows.{start_of}
use Rattle.matrix_scatter.proofs.row_starts.Given as goal

abbrev pub invariant-loop-c : goal.invariant-loop-c
invariant-loop-c l = Held 64 l.c (start_of l.p l.n l.terms) l.out
