-- `book_duals::packed::packed_block` meets its contract. The invariant: the first i dual words are packed.
-- Assumes nothing.
use Rattle.book_duals.proofs.Packing.{Packing}
use Rattle.book_duals.proofs.packed.packed_block.Given as goal

abbrev pub invariant-loop-i : goal.invariant-loop-i
invariant-loop-i l = Packing l.p l.book l.l l.k l.at l.out l.shift l.i
