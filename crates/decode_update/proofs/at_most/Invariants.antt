-- `decode_update::at_most` meets its contract. The invariant: `count` is the number of those of the first b blocks that are at most x.
-- Assumes nothing.
use lib.Dec.{leb}
use Rattle.word_array.specs.Stored.{place}
use Rattle.decode_update.proofs.Counts.{Blocked}
use Rattle.decode_update.proofs.at_most.Given as goal

abbrev pub invariant-loop-b : goal.invariant-loop-b
invariant-loop-b l = Blocked l.blocks (λ k. leb (place l.row k) l.x) l.b l.count
