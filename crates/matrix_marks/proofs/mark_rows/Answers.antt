-- `matrix_marks::mark_rows` meets its contract. The invariant: the rows below e are marked.
-- Assumes nothing.
use native.Mathlib.Omega.{arith}
use Rattle.matrix_marks.proofs.Marking.{marking_none, row_within, marking-more, marking_end}
use Rattle.matrix_marks.proofs.mark_rows.Goals as goal

pub loop-e-init : goal.loop-e-init
loop-e-init c = marking_none _ _ _ _ _ _ _

pub overflow_cast-s : goal.overflow_cast-s
overflow_cast-s c = omega (arith, c.requires.byte c.loop-e.e c.loop-e-test.true)

pub overflow_mul-to-in-loop-e-2 : goal.overflow_mul-to-in-loop-e-2
overflow_mul-to-in-loop-e-2 c = omega (arith, row_within c.loop-e.invariant c.requires c.loop-e-test.true)

pub mark-requires : goal.mark-requires
mark-requires c = (c.requires.word, omega (arith, row_within c.loop-e.invariant c.requires c.loop-e-test.true, c.requires.fits))

pub overflow_add-to : goal.overflow_add-to
overflow_add-to c = omega (arith, row_within c.loop-e.invariant c.requires c.loop-e-test.true, c.requires.fits)

pub mark-requires-in-loop-e : goal.mark-requires-in-loop-e
mark-requires-in-loop-e c =
    (c.requires.word, omega (arith, row_within c.loop-e.invariant c.requires c.loop-e-test.true, c.requires.fits, c.mark.ensures.long))

pub loop-e-preserved : goal.loop-e-preserved
loop-e-preserved c = marking-more c.loop-e.invariant c.requires c.mark.ensures c.mark-in-loop-e.ensures c.loop-e-test.true

pub returns : goal.returns
returns c = marking_end c.loop-e.invariant c.requires.long c.loop-e-test.false
