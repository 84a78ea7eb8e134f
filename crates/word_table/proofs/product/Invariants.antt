-- `word_table::product` meets its contract. The invariant: b blocks of the sum are written.
-- Assumes nothing.
use Prim.Native.Nat.{◌+◌, ◌*◌}
use Rattle.word_array.specs.Stored.{place}
use Rattle.word_table.specs.Rows.{turned_sum}
use Rattle.word_table.specs.Window.{Window}
use Rattle.word_table.proofs.product.Given as goal

abbrev pub invariant-loop-b : goal.invariant-loop-b
invariant-loop-b l = Window 0 (64 * l.b) (turned_sum (128 * l.blocks) l.n l.count (λ u. place l.symbols (l.start + u)) l.t) l.initial.out l.out
