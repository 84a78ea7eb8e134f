-- `word_table::block` meets its contract. The invariant: the places below j are the slice's.
-- Assumes nothing.
use mathlib.Core.Path.{refl}
use native.Mathlib.Omega.{arith}
use Rattle.spec_range.proofs.Loop.{held_none, held_more}
use Rattle.word_table.proofs.Window.{held_table}
use Rattle.word_table.proofs.block.Goals as goal

pub loop-j-init : goal.loop-j-init
loop-j-init c = held_none 64 _

pub loop-j-preserved : goal.loop-j-preserved
loop-j-preserved c = held_more _ (omega arith) refl c.loop-j.invariant

pub returns : goal.returns
returns c = held_table (omega arith) c.loop-j.invariant
