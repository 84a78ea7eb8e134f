-- `matrix_marks::raise` meets its contract. The invariant: the columns below j are added.
-- Assumes nothing.
use Prim.Native.Nat.{◌+◌}
use Rattle.word_array.specs.Stored.{place}
use Rattle.word_table.specs.Window.{Window}
use Rattle.matrix_marks.proofs.raise.Given as goal

abbrev pub invariant-loop-j : goal.invariant-loop-j
invariant-loop-j l = Window l.to l.j (λ j. place l.initial.counts (l.to + j) + place l.row j) l.initial.counts l.counts
