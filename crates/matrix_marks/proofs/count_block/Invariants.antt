-- `matrix_marks::count_block` meets its contract. The invariant: the marks of the first i terms are added.
-- Assumes nothing.
use Rattle.matrix_marks.proofs.Marking.{Summing}
use Rattle.matrix_marks.proofs.count_block.Given as goal

abbrev pub invariant-loop-i : goal.invariant-loop-i
invariant-loop-i l = Summing 64 l.v l.start l.terms l.from l.weight l.i l.row
