-- `matrix_marks::gather` meets its contract. The invariant: rows 1 to i - 1 are gathered.
-- Assumes nothing.
use Prim.Native.Nat.{◌*◌}
use Rattle.matrix_marks.proofs.Gathering.{Gathering}
use Rattle.matrix_marks.proofs.gather.Given as goal

abbrev pub invariant-loop-i : goal.invariant-loop-i
invariant-loop-i l = Gathering (64 * l.blocks) l.n l.terms l.counts l.initial.m l.m l.i
