-- `word_table::copy_blocks` meets its contract. The invariant: b blocks are copied.
-- Assumes nothing.
use Prim.Native.Nat.{◌+◌, ◌*◌}
use Rattle.word_array.specs.Stored.{place}
use Rattle.word_table.specs.Window.{Window}
use Rattle.word_table.proofs.copy_blocks.Given as goal

abbrev pub invariant-loop-b : goal.invariant-loop-b
invariant-loop-b l = Window l.to (64 * l.b) (λ j. place l.s (l.from + j)) l.initial.t l.t
