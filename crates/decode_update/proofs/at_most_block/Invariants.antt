-- `decode_update::at_most_block` meets its contract. The invariant: `count` is the number of those below place j of the block that are at most x.
-- Assumes nothing.
use Prim.Native.Nat.{◌+◌}
use lib.Dec.{leb}
use Rattle.word_array.specs.Stored.{place}
use Rattle.word_array.proofs.Counted.{Counted}
use Rattle.decode_update.proofs.at_most_block.Given as goal

abbrev pub invariant-loop-j : goal.invariant-loop-j
invariant-loop-j l = Counted 64 (λ k. leb (place l.row (l.from + k)) l.x) l.j l.count
