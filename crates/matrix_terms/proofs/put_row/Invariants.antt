-- `matrix_terms::put_row` meets its contract. The invariant: the places below j are written.
-- Assumes nothing.
use Rattle.spec_range.proofs.Loop.{Over}
use Rattle.word_array.specs.Stored.{place}
use Rattle.matrix_terms.proofs.put_row.Given as goal

abbrev pub invariant-loop-j : goal.invariant-loop-j
invariant-loop-j l = Over l.j (place l.row) l.initial.m l.m
