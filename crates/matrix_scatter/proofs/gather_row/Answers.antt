-- `matrix_scatter::gather_row` meets its contract. The invariant: the entries of the columns below j are written.
-- Assumes nothing.
use mathlib.Core.Path.{refl}
use Prim.Native.Nat.{◌+◌}
use native.Mathlib.Omega.{arith}
use Rattle.word_table.proofs.Window.{window_none, window_more}
use Rattle.matrix_scatter.proofs.Gathering.{row_gathered}
use Rattle.matrix_scatter.proofs.gather_row.Goals as goal

pub loop-j-init : goal.loop-j-init
loop-j-init c = window_none _ _ _

pub overflow_add-m-in-loop-j-2 : goal.overflow_add-m-in-loop-j-2
overflow_add-m-in-loop-j-2 c = omega (arith, c.requires.3 (c.args.low + c.loop-j.j), c.requires.3 (c.args.high + c.loop-j.j))

pub loop-j-preserved : goal.loop-j-preserved
loop-j-preserved c = window_more _ (omega (arith, c.loop-j.invariant.long, c.requires.0)) refl c.loop-j.invariant

pub returns : goal.returns
returns c = row_gathered (omega arith) c.loop-j.invariant
