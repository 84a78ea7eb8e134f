-- `matrix_marks::add_marks` meets its contract. The invariant: the columns below j are added.
-- Assumes nothing.
use mathlib.Core.Path.{◌≡◌}
use native.Mathlib.Nat.{le_refl}
use native.Mathlib.Omega.{arith}
use Rattle.spec_range.proofs.Loop.{over_none, over_more, over_table}
use borrow.Author.Rules.{rules}
use Rattle.matrix_marks.proofs.add_marks.Goals as goal

pub loop-j-init : goal.loop-j-init
loop-j-init c = over_none _ _

pub overflow_add-row-in-loop-j : goal.overflow_add-row-in-loop-j
overflow_add-row-in-loop-j c = omega (arith, c.loop-j.invariant.rest _ (le_refl c.loop-j.j), c.requires.fits c.loop-j.j (omega arith))

pub loop-j-preserved : goal.loop-j-preserved
loop-j-preserved c =
    over_more _ (omega arith) (rw (c.loop-j.invariant.rest _ (le_refl c.loop-j.j))) c.loop-j.invariant

pub returns : goal.returns
returns c = let e : c.loop-j.j ≡ 64 = omega arith in over_table _ _ _ _ (search rules) (rw e at c.loop-j.invariant)
