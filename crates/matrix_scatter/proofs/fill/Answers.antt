-- `matrix_scatter::fill` meets its contract: room goes by how many counters there are.
-- Assumes nothing.
use native.Mathlib.Omega.{arith}
use Rattle.matrix_terms.proofs.Received.{order_low}
use Rattle.matrix_scatter.proofs.Whole.{rows_are, rows_fit}
use Rattle.matrix_scatter.proofs.fill.Goals as goal

pub overflow_sub-rows : goal.overflow_sub-rows
overflow_sub-rows c = omega (arith, c.from.ensures, c.order.ensures, order_low c.requires.0.terms_of.numbers.sizes)

pub overflow_mul-rows-2 : goal.overflow_mul-rows-2
overflow_mul-rows-2 c =
    omega (arith, rows_are c.args.p c.args.n c.from.ensures c.order.ensures, rows_fit c.requires.0.terms_of.numbers.sizes)

pub fill_with-requires : goal.fill_with-requires
fill_with-requires c =
    (c.requires.0, c.requires.1, omega (arith, rows_are c.args.p c.args.n c.from.ensures c.order.ensures, c.if-rows-n-le-FEW_COUNTERS.true), omega arith)

pub fill_with-requires-else-rows-n-le-FEW_COUNTERS : goal.fill_with-requires-else-rows-n-le-FEW_COUNTERS
fill_with-requires-else-rows-n-le-FEW_COUNTERS c =
    (c.requires.0, c.requires.1, rows_fit c.requires.0.terms_of.numbers.sizes, omega arith)
