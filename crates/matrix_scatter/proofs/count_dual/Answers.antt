-- `matrix_scatter::count_dual` meets its contract. The invariant: the first i terms are counted.
-- Assumes nothing.
use native.Mathlib.Nat.{le_trans, mod-le, div-mul-le_self}
use native.Mathlib.Omega.{arith}
use Rattle.matrix_terms.proofs.Summing.{shift_high}
use Rattle.matrix_terms.proofs.Raised.{adding_none}
use Rattle.matrix_terms.proofs.Received.{order_low}
use Rattle.matrix_scatter.proofs.Terms.{parted, row_small, term_in, log_lt, base-room, base-small, term-within, term-more, terms_end}
use Rattle.matrix_scatter.proofs.count_dual.Goals as goal

pub overflow_sub-last : goal.overflow_sub-last
overflow_sub-last c = omega (arith, c.from-last.ensures, c.order.ensures, order_low c.requires.sizes)

pub overflow_add-from : goal.overflow_add-from
overflow_add-from c = omega (arith, row_small c.requires c.blocks-2.ensures)

pub loop-i-init : goal.loop-i-init
loop-i-init c = (omega (arith, c.from-last.ensures, c.order.ensures), adding_none _ _ _)

pub offset_bounds-terms-from : goal.offset_bounds-terms-from
offset_bounds-terms-from c = omega (arith, term_in c.requires c.blocks-2.ensures c.loop-i-test.true)

pub bounds-terms-from : goal.bounds-terms-from
bounds-terms-from c = term_in c.requires c.blocks-2.ensures c.loop-i-test.true

pub overflow_shr-log : goal.overflow_shr-log
overflow_shr-log c = omega (arith, c.shift-shift.ensures, shift_high c.args.n)

pub overflow_shl-h : goal.overflow_shl-h
overflow_shl-h c = omega (arith, c.shift-shift.ensures, shift_high c.args.n)

pub overflow_sub-h : goal.overflow_sub-h
overflow_sub-h c = le_trans (mod-le _ 18446744073709551616) (div-mul-le_self _ _)

pub overflow_sub-base : goal.overflow_sub-base
overflow_sub-base c = omega (
  arith,
  log_lt c.requires c.loop-i.invariant.1 c.loop-i-test.true c.loop-i.invariant.0
      (parted _ _ _ c.blocks-2.ensures c.shift-shift.ensures (c.type_inv.terms _)),
)

pub overflow_mul-base : goal.overflow_mul-base
overflow_mul-base c = omega (
  arith,
  base-small c.requires c.loop-i.invariant.1 c.loop-i-test.true c.loop-i.invariant.0
      (parted _ _ _ c.blocks-2.ensures c.shift-shift.ensures (c.type_inv.terms _)),
)

pub overflow_sub-base-in-loop-i : goal.overflow_sub-base-in-loop-i
overflow_sub-base-in-loop-i c =
    base-room c.requires c.loop-i.invariant.1 c.loop-i-test.true c.loop-i.invariant.0
    (parted _ _ _ c.blocks-2.ensures c.shift-shift.ensures (c.type_inv.terms _))

pub count_cells-requires : goal.count_cells-requires
count_cells-requires c = (
  c.requires.sizes.n_high,
  c.requires.eights,
  term-within c.requires c.loop-i.invariant.1 c.loop-i-test.true c.loop-i.invariant.0
      (parted _ _ _ c.blocks-2.ensures c.shift-shift.ensures (c.type_inv.terms _)),
)

pub loop-i-preserved : goal.loop-i-preserved
loop-i-preserved c = (
  c.loop-i.invariant.0,
  term-more c.requires c.loop-i.invariant.1 c.loop-i-test.true c.loop-i.invariant.0
      (parted _ _ _ c.blocks-2.ensures c.shift-shift.ensures (c.type_inv.terms _)) _ c.count_cells.ensures,
)

pub returns : goal.returns
returns c = terms_end c.requires c.loop-i.invariant.1 c.loop-i-test.false
