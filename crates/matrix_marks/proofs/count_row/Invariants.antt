-- `matrix_marks::count_row` meets its contract. The invariant: the first b blocks are added.
-- Assumes nothing.
use Prim.Native.Nat.{◌+◌, ◌*◌}
use Rattle.word_array.specs.Stored.{place}
use Rattle.word_table.specs.Window.{Window}
use Rattle.matrix_marks.specs.Marks.{marks_of}
use Rattle.matrix_marks.proofs.count_row.Given as goal

abbrev pub invariant-loop-b : goal.invariant-loop-b
invariant-loop-b l =
    Window l.to (64 * l.b) (λ j. place l.initial.counts (l.to + j) + marks_of l.v l.start l.terms l.from l.weight j) l.initial.counts l.counts
