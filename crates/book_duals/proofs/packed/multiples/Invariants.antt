-- `book_duals::packed::multiples` meets its contract. The invariant: the rows below 2c are put.
-- Assumes nothing.
use Prim.Native.Nat.{◌*◌}
use Rattle.sizes.specs.Blocks.{stride}
use Rattle.word_table.specs.Multiples.{entry}
use Rattle.book_duals.proofs.LaneRows.{LaneRows}
use Rattle.book_duals.proofs.packed.multiples.Given as goal

abbrev pub invariant-loop-c : goal.invariant-loop-c
invariant-loop-c l = LaneRows (stride l.n) l.p (2 * l.c) (entry (stride l.n) l.initial.t 1) l.t
