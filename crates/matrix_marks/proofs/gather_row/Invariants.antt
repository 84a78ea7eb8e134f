-- `matrix_marks::gather_row` meets its contract. The invariant: the columns below j are copied.
-- Assumes nothing.
use Prim.Native.Nat.{◌+◌}
use Rattle.word_array.specs.Stored.{place}
use Rattle.word_table.specs.Window.{Window}
use Rattle.matrix_marks.proofs.gather_row.Given as goal

abbrev pub invariant-loop-j : goal.invariant-loop-j
invariant-loop-j l = Window l.to l.j (λ j. place l.counts (l.from + j)) l.initial.m l.m
