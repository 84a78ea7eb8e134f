-- `book_duals::packed::double_block` meets its contract. The invariant: j places are written.
-- Assumes nothing.
use Rattle.word_array.specs.Stored.{place}
use Rattle.word_table.specs.Window.{Window}
use Rattle.book_duals.specs.Lanes.{double_all}
use Rattle.book_duals.proofs.packed.double_block.Given as goal

abbrev pub invariant-loop-j : goal.invariant-loop-j
invariant-loop-j l = Window l.to l.j (λ j. double_all l.p (place l.row j)) l.initial.t l.t
