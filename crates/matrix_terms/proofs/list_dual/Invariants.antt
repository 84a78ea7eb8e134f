-- `matrix_terms::list_dual` meets its contract. The invariant: the terms of the nonzero places below h are written.
-- Assumes nothing.
use Prim.Native.Nat.{◌+◌}
use Rattle.word_array.specs.Stored.{place}
use Rattle.matrix_terms.proofs.Rows.{Written}
use Rattle.matrix_terms.proofs.list_dual.Given as goal

abbrev pub invariant-loop-h : goal.invariant-loop-h
invariant-loop-h l =
    Written l.stride l.n (λ j. place l.book (l.start + j)) l.from l.initial.terms l.count l.h l.terms
