-- `matrix_scatter::gather` meets its contract. The invariant: the rows from 1 to i - 1 are gathered.
-- Assumes nothing.
use mathlib.Core.Path.{◌∙◌}
use native.Mathlib.Omega.{arith}
use Rattle.matrix_terms.proofs.Received.{order_le}
use Rattle.matrix_scatter.proofs.Gathering.{log-small, row_in, low-in, high-in, gathering_none, gathering_more, gathering_end}
use Rattle.matrix_scatter.proofs.gather.Goals as goal

pub loop-i-init : goal.loop-i-init
loop-i-init c = gathering_none c.requires.sizes _ _ _

pub bounds-terms-i : goal.bounds-terms-i
bounds-terms-i c = omega (arith, c.from-q.ensures ∙ c.order.ensures, c.requires.logged.long)

pub overflow_mul-i : goal.overflow_mul-i
overflow_mul-i c = omega (arith, row_in c.loop-i.invariant c.requires (c.from-q.ensures ∙ c.order.ensures) c.loop-i-test.true)

pub overflow_mul-e : goal.overflow_mul-e
overflow_mul-e c = omega (arith, low-in c.loop-i.invariant c.requires (c.from-q.ensures ∙ c.order.ensures) c.loop-i-test.true)

pub overflow_add-e : goal.overflow_add-e
overflow_add-e c = omega (
  arith,
  log-small c.loop-i.invariant c.requires (c.from-q.ensures ∙ c.order.ensures) c.loop-i-test.true,
  order_le c.requires.sizes,
)

pub overflow_mul-e-in-loop-i : goal.overflow_mul-e-in-loop-i
overflow_mul-e-in-loop-i c = omega (arith, high-in c.loop-i.invariant c.requires (c.from-q.ensures ∙ c.order.ensures) c.loop-i-test.true)

pub gather_row-requires : goal.gather_row-requires
gather_row-requires c = (
  row_in c.loop-i.invariant c.requires (c.from-q.ensures ∙ c.order.ensures) c.loop-i-test.true,
  low-in c.loop-i.invariant c.requires (c.from-q.ensures ∙ c.order.ensures) c.loop-i-test.true,
  high-in c.loop-i.invariant c.requires (c.from-q.ensures ∙ c.order.ensures) c.loop-i-test.true,
  c.requires.small,
)

pub loop-i-preserved : goal.loop-i-preserved
loop-i-preserved c =
    gathering_more c.loop-i.invariant c.requires (c.from-q.ensures ∙ c.order.ensures) c.loop-i-test.true c.gather_row.ensures

pub returns : goal.returns
returns c = gathering_end c.loop-i.invariant (omega (arith, c.from-q.ensures ∙ c.order.ensures))
