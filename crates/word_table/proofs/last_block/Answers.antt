-- `word_table::last_block` meets its contract. The invariant: the places below j are the slice's.
-- Assumes nothing.
use mathlib.Core.Path.{refl}
use native.Mathlib.Omega.{arith}
use Rattle.spec_range.proofs.Loop.{held_none, held_more}
use Rattle.word_array.proofs.Filled.{held_end}
use Rattle.word_table.proofs.last_block.Goals as goal

pub loop-j-init : goal.loop-j-init
loop-j-init c = held_none 64 _

pub loop-j-preserved : goal.loop-j-preserved
loop-j-preserved c = held_more _ (omega arith) refl c.loop-j.invariant

pub returns : goal.returns
returns c = held_end (omega arith) c.loop-j.invariant
