-- `matrix_marks::count_block` meets its contract. The invariant: the marks of the first i terms are added.
-- Assumes nothing.
use Rattle.matrix_marks.proofs.Marking.{summing_none, summing_addable, summing_more, summing_end}
use Rattle.matrix_marks.proofs.count_block.Goals as goal

pub loop-i-init : goal.loop-i-init
loop-i-init c = summing_none 64 _ _ _ _ _

pub add_marks-requires : goal.add_marks-requires
add_marks-requires c = summing_addable c.loop-i.invariant c.requires c.loop-i-test.true

pub loop-i-preserved : goal.loop-i-preserved
loop-i-preserved c = summing_more c.loop-i.invariant c.loop-i-test.true c.add_marks.ensures

pub returns : goal.returns
returns c = summing_end c.loop-i.invariant c.loop-i-test.false
