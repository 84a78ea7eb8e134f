-- `matrix_marks::mark_rows` meets its contract. The invariant: the rows below e are marked.
-- Assumes nothing.
use Prim.Native.Nat.{◌*◌}
use Rattle.matrix_marks.specs.Marks.{powers_in}
use Rattle.matrix_marks.proofs.Marking.{Marking}
use Rattle.matrix_marks.proofs.mark_rows.Given as goal

abbrev pub invariant-loop-e : goal.invariant-loop-e
invariant-loop-e l = Marking (128 * l.blocks) (64 * l.blocks) l.n l.rows (powers_in l.terms) l.w l.initial.v l.v l.e
