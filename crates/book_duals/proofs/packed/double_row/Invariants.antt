-- `book_duals::packed::double_row` meets its contract. The invariant: b blocks of row 2c are written; row c stands below them, as it was.
-- Assumes nothing.
use Prim.Native.Nat.{◌*◌}
use Rattle.word_table.specs.Multiples.{entry}
use Rattle.word_table.specs.Window.{Window}
use Rattle.book_duals.specs.Lanes.{double_all}
use Rattle.book_duals.proofs.packed.double_row.Given as goal

abbrev pub invariant-loop-b : goal.invariant-loop-b
invariant-loop-b l = Window l.to (64 * l.b) (λ j. double_all l.p (entry (128 * l.blocks) l.initial.t l.c j)) l.initial.t l.t
