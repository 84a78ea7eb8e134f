-- `matrix_marks::count_dual` meets its contract. The invariant: the rows below e are added to the counters.
-- Assumes nothing.
use Prim.Native.Nat.{◌*◌}
use Rattle.matrix_marks.specs.Marks.{marks_of}
use Rattle.matrix_marks.proofs.Turning.{Raising}
use Rattle.matrix_marks.proofs.count_dual.Given as goal

abbrev pub invariant-loop-e : goal.invariant-loop-e
invariant-loop-e l =
    Raising (64 * l.blocks) l.rows (λ e. marks_of l.v (128 * l.blocks * e) l.terms l.from l.weight) l.initial.counts l.counts l.e
