-- `word_table::put_times_x` meets its contract. The invariant: the places below `to + j` are written.
-- Assumes nothing.
use mathlib.Core.Path.{◌≡◌}
use native.Mathlib.Omega.{arith}
use Rattle.word_table.proofs.Window.{window_none, window_more}
use Rattle.word_table.proofs.put_times_x.Goals as goal

pub loop-j-init : goal.loop-j-init
loop-j-init c = window_none _ _ _

pub double-requires : goal.double-requires
double-requires c = (c.requires.0, c.requires.1, c.requires.3.symbol _ (omega arith))

pub loop-j-preserved : goal.loop-j-preserved
loop-j-preserved c = window_more _ (omega arith) c.double.ensures.0 c.loop-j.invariant

pub returns : goal.returns
returns c = let e : c.loop-j.j ≡ 64 = omega arith in rw e at c.loop-j.invariant
