-- `matrix_scatter::count_cells` meets its contract. The invariant: the offsets of the first i eights of places are counted.
-- Assumes nothing.
use Prim.Native.Nat.{◌+◌, ◌*◌}
use Rattle.matrix_terms.proofs.Raised.{Adding}
use Rattle.matrix_scatter.specs.Scatter.{cell_adds}
use Rattle.matrix_scatter.proofs.count_cells.Given as goal

abbrev pub invariant-loop-i : goal.invariant-loop-i
invariant-loop-i l = Adding (l.n + 1) (cell_adds l.cells l.h l.base) l.initial.counts l.counts (8 * l.i)
