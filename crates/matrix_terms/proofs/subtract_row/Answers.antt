-- `matrix_terms::subtract_row` meets its contract. The invariant: the places below j are subtracted.
-- Assumes nothing.
use native.Mathlib.Omega.{arith}
use native.Mathlib.Nat.{le_refl}
use Rattle.spec_range.proofs.Loop.{over_none, over_more}
use Rattle.matrix_terms.proofs.RowLeft.{next_covered, subtracted}
use Rattle.matrix_terms.proofs.subtract_row.Goals as goal

pub loop-j-init : goal.loop-j-init
loop-j-init c = over_none _ _

pub overflow_sub-left : goal.overflow_sub-left
overflow_sub-left c = next_covered c.requires c.loop-j-test.true c.loop-j.invariant

pub loop-j-preserved : goal.loop-j-preserved
loop-j-preserved c =
    over_more _ (omega (arith, c.loop-j.invariant.long)) (rw (c.loop-j.invariant.rest _ (le_refl c.loop-j.j))) c.loop-j.invariant

pub returns : goal.returns
returns c = subtracted c.requires c.loop-j-test.false c.loop-j.invariant
