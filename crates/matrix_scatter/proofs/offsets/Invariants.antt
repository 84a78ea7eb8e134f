-- `matrix_scatter::offsets` meets its contract. The invariant: the offsets of the places below j are written, twice over.
-- Assumes nothing.
use Rattle.matrix_scatter.proofs.Offsetting.{Doubling}
use Rattle.matrix_scatter.proofs.offsets.Given as goal

abbrev pub invariant-loop-j : goal.invariant-loop-j
invariant-loop-j l = Doubling l.n l.starts l.w l.initial.out l.out l.j
