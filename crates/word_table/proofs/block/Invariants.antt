-- `word_table::block` meets its contract. The invariant: the places below j are the slice's.
-- Assumes nothing.
use Prim.Native.Nat.{◌+◌}
use Rattle.spec_range.proofs.Loop.{Held}
use Rattle.word_array.specs.Stored.{place}
use Rattle.word_table.proofs.block.Given as goal

abbrev pub invariant-loop-j : goal.invariant-loop-j
invariant-loop-j l = Held 64 l.j (λ j. place l.s (l.from + j)) l.out
