-- `matrix::clear` meets its contract. The invariant: the entries below k are 0.
-- Assumes nothing.
use mathlib.Core.Path.{◌≡◌, refl}
use native.Mathlib.Omega.{arith}
use lib.ListN.{length}
use Rattle.spec_range.proofs.Loop.{over_none, over_more, over_table}
use Rattle.matrix.proofs.clear.Goals as goal

pub loop-k-init : goal.loop-k-init
loop-k-init c = over_none _ _

pub loop-k-preserved : goal.loop-k-preserved
loop-k-preserved c = over_more _ (omega arith) refl c.loop-k.invariant

pub returns : goal.returns
returns c = let e : c.loop-k.k ≡ length c.args.m.now = omega arith in over_table _ _ _ _ refl (rw e at c.loop-k.invariant)
