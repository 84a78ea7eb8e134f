-- `book_duals::packed::packed` meets its contract. The invariant: b blocks are packed.
-- Assumes nothing.
use Prim.Native.Nat.{◌*◌}
use Rattle.word_table.specs.Window.{Window}
use Rattle.book_duals.specs.Lanes.{packed_at}
use Rattle.book_duals.proofs.packed.packed.Given as goal

abbrev pub invariant-loop-b : goal.invariant-loop-b
invariant-loop-b l = Window 0 (64 * l.b) (packed_at l.p l.book l.l l.k) l.initial.out l.out
