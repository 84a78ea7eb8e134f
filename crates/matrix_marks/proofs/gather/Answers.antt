-- `matrix_marks::gather` meets its contract. The invariant: rows 1 to i - 1 are gathered.
-- Assumes nothing.
use mathlib.Core.Path.{◌∙◌}
use native.Mathlib.Omega.{arith}
use Rattle.matrix_terms.proofs.Received.{order_le}
use Rattle.matrix_marks.proofs.Gathering.{gathering_none, row_within, counters_within, span_within, gathering_more, gathering_end}
use Rattle.matrix_marks.proofs.gather.Goals as goal

pub loop-i-init : goal.loop-i-init
loop-i-init c = gathering_none _ _ _ _ _

pub overflow_mul-i : goal.overflow_mul-i
overflow_mul-i c =
    omega (arith, row_within c.requires c.loop-i.invariant (omega (arith, c.from-q.ensures ∙ c.order.ensures)), c.loop-i.invariant.long)

pub overflow_mul-blocks : goal.overflow_mul-blocks
overflow_mul-blocks c = omega (arith, span_within c.requires c.loop-i.invariant)

pub bounds-terms-i : goal.bounds-terms-i
bounds-terms-i c = omega (arith, c.from-q.ensures ∙ c.order.ensures, order_le c.requires.sizes, c.requires.logs_long)

pub overflow_mul-blocks-in-loop-i : goal.overflow_mul-blocks-in-loop-i
overflow_mul-blocks-in-loop-i c =
    omega (arith, counters_within c.requires c.loop-i.invariant (omega (arith, c.from-q.ensures ∙ c.order.ensures)))

pub gather_row-requires : goal.gather_row-requires
gather_row-requires c = (
  row_within c.requires c.loop-i.invariant (omega (arith, c.from-q.ensures ∙ c.order.ensures)),
  counters_within c.requires c.loop-i.invariant (omega (arith, c.from-q.ensures ∙ c.order.ensures)),
)

pub loop-i-preserved : goal.loop-i-preserved
loop-i-preserved c = gathering_more c.requires c.loop-i.invariant c.gather_row.ensures

pub returns : goal.returns
returns c = gathering_end c.requires c.loop-i.invariant (omega (arith, c.from-q.ensures ∙ c.order.ensures))
