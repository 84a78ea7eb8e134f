-- `word_table::product_block` meets its contract. The invariant: the rows of the first u places are summed.
-- Assumes nothing.
use Prim.Native.Nat.{◌+◌, ◌*◌}
use Rattle.word_array.specs.Stored.{place}
use Rattle.word_table.proofs.Sums.{Summing}
use Rattle.word_table.proofs.product_block.Given as goal

abbrev pub invariant-loop-u : goal.invariant-loop-u
invariant-loop-u l = Summing (128 * l.blocks) 64 l.n l.count l.at (λ u. place l.symbols (l.start + u)) l.t l.u l.sum
