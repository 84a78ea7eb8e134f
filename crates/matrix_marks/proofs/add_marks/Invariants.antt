-- `matrix_marks::add_marks` meets its contract. The invariant: the columns below j are added.
-- Assumes nothing.
use Prim.Native.Nat.{◌+◌}
use Rattle.spec_range.proofs.Loop.{Over}
use Rattle.word_array.specs.Stored.{place}
use Rattle.matrix_marks.proofs.add_marks.Given as goal

abbrev pub invariant-loop-j : goal.invariant-loop-j
invariant-loop-j l = Over l.j (λ j. place l.initial.row j + place l.v (l.from + j)) l.initial.row l.row
