-- `matrix_scatter::offsets` meets its contract. The invariant: the offsets of the places below j are written, twice over.
-- Assumes nothing.
use native.Mathlib.Omega.{arith}
use lib.ListN.{length-set}
use Rattle.matrix_scatter.proofs.Offsetting.{doubling_none, doubling_more, doubling_end}
use Rattle.matrix_scatter.proofs.offsets.Goals as goal

pub loop-j-init : goal.loop-j-init
loop-j-init c = doubling_none _ _ _ _

pub bounds-starts-w : goal.bounds-starts-w
bounds-starts-w c = omega (arith, c.requires.3.symbol _ c.loop-j-test.true)

pub overflow_add-to : goal.overflow_add-to
overflow_add-to c = omega (arith, c.requires.3.small _ c.loop-j-test.true)

pub overflow_add-out : goal.overflow_add-out
overflow_add-out c = omega (arith, c.requires.3.small _ c.loop-j-test.true)

pub bounds-out-n : goal.bounds-out-n
bounds-out-n c = simp length-set (omega (arith, c.loop-j.invariant.long))

pub loop-j-preserved : goal.loop-j-preserved
loop-j-preserved c = doubling_more c.loop-j.invariant c.requires.2 c.loop-j-test.true

pub returns : goal.returns
returns c = doubling_end c.loop-j.invariant c.loop-j-test.false
