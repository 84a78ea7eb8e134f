-- `book_duals::join_block` meets its contract. The invariant: j places are joined.
-- Assumes nothing.
use Prim.Native.Nat.{◌+◌}
use lib.Bits.{bit_or}
use Rattle.word_array.specs.Stored.{place}
use Rattle.word_table.specs.Window.{Window}
use Rattle.book_duals.proofs.join_block.Given as goal

abbrev pub invariant-loop-j : goal.invariant-loop-j
invariant-loop-j l = Window l.at l.j (λ j. bit_or (place l.initial.left (l.at + j)) (place l.word (l.at + j))) l.initial.left l.left
