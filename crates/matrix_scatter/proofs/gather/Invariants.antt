-- `matrix_scatter::gather` meets its contract. The invariant: the rows from 1 to i - 1 are gathered.
-- Assumes nothing.
use Rattle.matrix_scatter.proofs.Gathering.{Gathering}
use Rattle.matrix_scatter.proofs.gather.Given as goal

abbrev pub invariant-loop-i : goal.invariant-loop-i
invariant-loop-i l = Gathering l.p l.n l.terms l.counts l.initial.m l.m l.i
