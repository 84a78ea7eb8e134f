-- `matrix_terms::subtract_row` meets its contract. The invariant: the places below j are subtracted.
-- Assumes nothing.
use Prim.Native.Nat.{◌+◌, ◌-◌}
use Rattle.spec_range.proofs.Loop.{Over}
use Rattle.word_array.specs.Stored.{place}
use Rattle.matrix_terms.proofs.subtract_row.Given as goal

abbrev pub invariant-loop-j : goal.invariant-loop-j
invariant-loop-j l = Over l.j (λ j. place l.initial.left j - place l.m (l.from + j)) l.initial.left l.left
