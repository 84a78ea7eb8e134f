-- `matrix_terms::list_dual` meets its contract. The invariant: the terms of the nonzero places below h are written.
-- Assumes nothing.
use native.Mathlib.Omega.{arith}
use Rattle.matrix_terms.proofs.Rows.{written_none, written-end, term_in, dual_small, term-small, dual_more, row_fits}
use Rattle.matrix_terms.proofs.list_dual.Goals as goal

pub overflow_add-from : goal.overflow_add-from
overflow_add-from c = omega (arith, row_fits c.requires.0 c.dual_at-start.ensures c.blocks-blocks.ensures c.requires.1)

pub loop-h-init : goal.loop-h-init
loop-h-init c = written_none _ _ _ _ _

pub overflow_cast-terms : goal.overflow_cast-terms
overflow_cast-terms c = omega (arith, dual_small c.requires.0 c.dual_at-start.ensures c.blocks-blocks.ensures c.loop-h-test.true)

pub offset_bounds-terms-c : goal.offset_bounds-terms-c
offset_bounds-terms-c c = omega (arith, dual_small c.requires.0 c.dual_at-start.ensures c.blocks-blocks.ensures c.loop-h-test.true)

pub bounds-terms-c : goal.bounds-terms-c
bounds-terms-c c = omega (
  arith,
  dual_small c.requires.0 c.dual_at-start.ensures c.blocks-blocks.ensures c.loop-h-test.true,
  row_fits c.requires.0 c.dual_at-start.ensures c.blocks-blocks.ensures c.requires.1,
  c.loop-h.invariant.long,
)

pub overflow_mul-terms : goal.overflow_mul-terms
overflow_mul-terms c =
    omega (arith, term-small c.requires.0 c.dual_at-start.ensures c.blocks-blocks.ensures c.loop-h.invariant c.requires.1 c.loop-h-test.true)

pub overflow_add-terms : goal.overflow_add-terms
overflow_add-terms c = omega (
  arith,
  term-small c.requires.0 c.dual_at-start.ensures c.blocks-blocks.ensures c.loop-h.invariant c.requires.1 c.loop-h-test.true,
  c.requires.0.sizes.n_high,
)

pub overflow_add-terms-in-loop-h : goal.overflow_add-terms-in-loop-h
overflow_add-terms-in-loop-h c =
    omega (arith, c.loop-h.invariant.listing.count_le, row_fits c.requires.0 c.dual_at-start.ensures c.blocks-blocks.ensures c.requires.1)

pub offset_bounds-terms-from : goal.offset_bounds-terms-from
offset_bounds-terms-from c =
    omega (arith, c.loop-h.invariant.listing.count_le, row_fits c.requires.0 c.dual_at-start.ensures c.blocks-blocks.ensures c.requires.1)

pub bounds-terms-from : goal.bounds-terms-from
bounds-terms-from c =
    term_in c.loop-h.invariant c.loop-h-test.true (row_fits c.requires.0 c.dual_at-start.ensures c.blocks-blocks.ensures c.requires.1)

pub loop-h-preserved : goal.loop-h-preserved
loop-h-preserved c =
    dual_more c.requires.0 c.dual_at-start.ensures c.blocks-blocks.ensures c.loop-h.invariant c.requires.1 c.loop-h-test.true

pub returns : goal.returns
returns c = written-end c.requires.0 c.dual_at-start.ensures c.blocks-blocks.ensures c.loop-h.invariant c.loop-h-test.false
