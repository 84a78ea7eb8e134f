-- `word_table::put_block` meets its contract. The invariant: the places below `to + j` are written.
-- Assumes nothing.
use Rattle.word_array.specs.Stored.{place}
use Rattle.word_table.specs.Window.{Window}
use Rattle.word_table.proofs.put_block.Given as goal

abbrev pub invariant-loop-j : goal.invariant-loop-j
invariant-loop-j l = Window l.to l.j (place l.b) l.initial.t l.t
