-- `matrix_terms::put_row` meets its contract. The invariant: the places below j are written.
-- Assumes nothing.
use mathlib.Core.Path.{◌≡◌, refl}
use native.Mathlib.Omega.{arith}
use Rattle.spec_range.proofs.Loop.{over_none, over_more}
use Rattle.matrix_terms.proofs.RowLeft.{over_front}
use Rattle.matrix_terms.proofs.put_row.Goals as goal

pub loop-j-init : goal.loop-j-init
loop-j-init c = over_none _ _

pub loop-j-preserved : goal.loop-j-preserved
loop-j-preserved c = over_more _ (omega (arith, c.loop-j.invariant.long, c.requires.1)) refl c.loop-j.invariant

pub returns : goal.returns
returns c = let e : c.loop-j.j ≡ c.args.n = omega arith in over_front (rw e at c.loop-j.invariant)
