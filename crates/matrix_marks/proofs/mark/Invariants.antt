-- `matrix_marks::mark` meets its contract. The invariant: the first b blocks are marked.
-- Assumes nothing.
use Prim.Native.Nat.{◌*◌}
use lib.Dec.{eqb}
use Rattle.spec_range.specs.Fold.{indicator}
use Rattle.word_array.specs.Stored.{place}
use Rattle.word_table.specs.Window.{Window}
use Rattle.matrix_marks.proofs.mark.Given as goal

abbrev pub invariant-loop-b : goal.invariant-loop-b
invariant-loop-b l = Window l.to (64 * l.b) (λ j. indicator (eqb (place l.w j) l.s)) l.initial.v l.v
