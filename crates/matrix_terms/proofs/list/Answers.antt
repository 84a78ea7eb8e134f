-- `matrix_terms::list` meets its contract. The invariant: the dual words below l are listed.
-- Assumes nothing.
use native.Mathlib.Omega.{arith}
use Rattle.sizes.proofs.Lengths.{blocks_fit}
use Rattle.matrix_terms.proofs.Rows.{listed_none, dual_in, row_in, listed_more, last-le, listed-long, listed-end}
use Rattle.matrix_terms.proofs.list.Goals as goal

pub loop-l-init : goal.loop-l-init
loop-l-init c = listed_none _ _ _ _ _ _

pub list_dual-weight-requires : goal.list_dual-weight-requires
list_dual-weight-requires c = (
  dual_in c.requires.0 c.requires.1 c.put.ensures c.loop-l.invariant c.loop-l-test.true,
  row_in c.requires.0 c.requires.1 c.put.ensures c.loop-l.invariant c.loop-l-test.true,
)

pub loop-l-preserved : goal.loop-l-preserved
loop-l-preserved c =
    listed_more c.requires.0 c.requires.1 c.put.ensures c.loop-l.invariant c.loop-l-test.true c.list_dual-weight.ensures

pub overflow_cast-terms : goal.overflow_cast-terms
overflow_cast-terms c =
    omega (arith, last-le c.requires.0 c.requires.1 c.put.ensures c.loop-l.invariant c.loop-l-test.false, c.requires.0.sizes.n_high)

pub shape_of-terms : goal.shape_of-terms
shape_of-terms c = listed-long c.requires.0 c.requires.1 c.put.ensures c.loop-l.invariant c.loop-l-test.false

pub returns : goal.returns
returns c = (
  listed-end c.requires.0 c.requires.1 c.put.ensures c.loop-l.invariant c.loop-l-test.false (omega (arith, blocks_fit c.requires.0.sizes.n_high)),
  listed-long c.requires.0 c.requires.1 c.put.ensures c.loop-l.invariant c.loop-l-test.false,
)
