-- `matrix_marks::gather_row` meets its contract. The invariant: the columns below j are copied.
-- Assumes nothing.
use mathlib.Core.Path.{◌≡◌, refl}
use native.Mathlib.Omega.{arith}
use Rattle.word_table.proofs.Window.{window_none, window_more}
use Rattle.matrix_marks.proofs.gather_row.Goals as goal

pub loop-j-init : goal.loop-j-init
loop-j-init c = window_none _ _ _

pub loop-j-preserved : goal.loop-j-preserved
loop-j-preserved c = window_more _ (omega arith) refl c.loop-j.invariant

pub returns : goal.returns
returns c = let e : c.loop-j.j ≡ c.args.n = omega arith in rw e at c.loop-j.invariant
