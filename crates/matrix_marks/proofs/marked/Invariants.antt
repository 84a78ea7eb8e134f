-- `matrix_marks::marked` meets its contract. The invariant: the places below j are marked.
-- Assumes nothing.
use lib.Dec.{eqb}
use Rattle.spec_range.specs.Fold.{indicator}
use Rattle.spec_range.proofs.Loop.{Held}
use Rattle.word_array.specs.Stored.{place}
use Rattle.matrix_marks.proofs.marked.Given as goal

abbrev pub invariant-loop-j : goal.invariant-loop-j
invariant-loop-j l = Held 64 l.j (λ j. indicator (eqb (place l.w j) l.s)) l.out
