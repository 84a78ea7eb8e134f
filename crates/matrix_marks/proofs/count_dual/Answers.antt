-- `matrix_marks::count_dual` meets its contract. The invariant: the rows below e are added to the counters.
-- Assumes nothing.
use mathlib.Core.Path.{◌∙◌}
use native.Mathlib.Omega.{arith}
use lib.Pow.{pow_pos}
use Rattle.matrix_marks.proofs.Turning.{raising_none, raising_more, turned_markable, turned_summable, counters_in, turned_le, raising_end}
use Rattle.matrix_marks.proofs.count_dual.Goals as goal

pub loop-e-preserved : goal.loop-e-preserved
loop-e-preserved c =
    raising_more c.loop-e.invariant c.loop-e-test.true
    (turned_le c.requires c.mark_rows.ensures (c.from-rows.ensures ∙ c.order.ensures) (omega arith) _ c.loop-e-test.true) c.count_row.ensures

pub overflow_sub-rows : goal.overflow_sub-rows
overflow_sub-rows c = omega (arith, pow_pos c.args.p, c.from-rows.ensures ∙ c.order.ensures)

pub mark_rows-requires : goal.mark_rows-requires
mark_rows-requires c = turned_markable _ c.requires (c.from-rows.ensures ∙ c.order.ensures) (omega arith)

pub loop-e-init : goal.loop-e-init
loop-e-init c = raising_none _ _ _ _

pub overflow_mul-blocks-in-loop-e : goal.overflow_mul-blocks-in-loop-e
overflow_mul-blocks-in-loop-e c =
    omega (arith, (turned_summable c.requires c.mark_rows.ensures (c.from-rows.ensures ∙ c.order.ensures) (omega arith) _ c.loop-e-test.true).start_in)

pub overflow_mul-blocks-in-loop-e-3 : goal.overflow_mul-blocks-in-loop-e-3
overflow_mul-blocks-in-loop-e-3 c =
    omega (arith, counters_in c.requires c.mark_rows.ensures (c.from-rows.ensures ∙ c.order.ensures) (omega arith) c.loop-e.invariant c.loop-e-test.true)

pub count_row-requires : goal.count_row-requires
count_row-requires c = (
  turned_summable c.requires c.mark_rows.ensures (c.from-rows.ensures ∙ c.order.ensures) (omega arith) _ c.loop-e-test.true,
  counters_in c.requires c.mark_rows.ensures (c.from-rows.ensures ∙ c.order.ensures) (omega arith) c.loop-e.invariant c.loop-e-test.true,
  λ k. omega (arith, c.loop-e.invariant.room k, c.requires.room k),
)

pub returns : goal.returns
returns c = raising_end c.requires c.mark_rows.ensures (c.from-rows.ensures ∙ c.order.ensures) (omega arith) c.loop-e.invariant c.loop-e-test.false
