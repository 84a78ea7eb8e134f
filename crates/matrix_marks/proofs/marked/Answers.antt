-- `matrix_marks::marked` meets its contract. The invariant: the places below j are marked.
-- Assumes nothing.
use native.Mathlib.Omega.{arith}
use lib.Dec.{eqb}
use Rattle.spec_range.proofs.Loop.{held_none, held_more}
use Rattle.word_array.specs.Stored.{place}
use Rattle.word_table.proofs.Window.{held_table}
use Rattle.matrix_marks.proofs.Marking.{byte}
use Rattle.matrix_marks.proofs.marked.Goals as goal

pub loop-j-init : goal.loop-j-init
loop-j-init c = held_none 64 _

pub loop-j-preserved : goal.loop-j-preserved
loop-j-preserved c = held_more _ (omega arith) (byte (eqb (place c.args.w c.loop-j.j) c.args.s)) c.loop-j.invariant

pub returns : goal.returns
returns c = held_table (omega arith) c.loop-j.invariant
