-- `matrix_scatter::row_starts` meets its contract. The invariant: the starts of the symbols below c are stored.
-- Assumes nothing.
use mathlib.Core.Path.{◌∙◌}
use native.Mathlib.Omega.{arith}
use Rattle.spec_range.proofs.Loop.{held_more}
use Rattle.matrix_terms.proofs.Received.{order_low, order_le}
use Rattle.matrix_scatter.proofs.Rows.{start_le, first_le, starts_first, log_start, starts_end}
use Rattle.matrix_scatter.proofs.row_starts.Goals as goal

pub overflow_sub-out : goal.overflow_sub-out
overflow_sub-out c = omega (arith, c.from-q.ensures ∙ c.order.ensures, order_low c.requires.0)

pub overflow_mul-out-2 : goal.overflow_mul-out-2
overflow_mul-out-2 c = omega (arith, first_le c.requires.0 c.from-q.result (c.from-q.ensures ∙ c.order.ensures))

pub loop-c-init : goal.loop-c-init
loop-c-init c = starts_first _ _ _ (c.from-q.ensures ∙ c.order.ensures)

pub overflow_mul-out-in-loop-c : goal.overflow_mul-out-in-loop-c
overflow_mul-out-in-loop-c c = omega (
  arith,
  log_start c.args.p c.args.n c.args.terms.now c.loop-c.c (omega arith),
  start_le c.requires.0 c.requires.1 c.loop-c.c (omega (arith, c.from-q.ensures ∙ c.order.ensures)),
)

pub bounds-out-c : goal.bounds-out-c
bounds-out-c c = omega (arith, c.from-q.ensures ∙ c.order.ensures, order_le c.requires.0)

pub loop-c-preserved : goal.loop-c-preserved
loop-c-preserved c =
    held_more _ (omega (arith, c.from-q.ensures ∙ c.order.ensures, order_le c.requires.0)) (log_start _ _ _ _ (omega arith)) c.loop-c.invariant

pub returns : goal.returns
returns c = starts_end c.loop-c.invariant (omega (arith, c.from-q.ensures ∙ c.order.ensures))
