-- `matrix_scatter::gather_row` meets its contract. The invariant: the entries of the columns below j are written.
-- Assumes nothing.
use Prim.Native.Nat.{◌+◌}
use Rattle.word_array.specs.Stored.{place}
use Rattle.word_table.specs.Window.{Window}
use Rattle.matrix_scatter.proofs.gather_row.Given as goal

abbrev pub invariant-loop-j : goal.invariant-loop-j
invariant-loop-j l = Window l.from l.j (λ j. place l.counts (l.low + j) + place l.counts (l.high + j)) l.initial.m l.m
