-- `word_table::put_next` meets its contract. The invariant: b blocks of row 2c + 1 are written; rows 1 and 2c stand below them, as they were.
-- Assumes nothing.
use Prim.Native.Nat.{◌*◌}
use lib.Bits.{bit_xor}
use Rattle.word_table.specs.Multiples.{entry}
use Rattle.word_table.specs.Window.{Window}
use Rattle.word_table.proofs.put_next.Given as goal

abbrev pub invariant-loop-b : goal.invariant-loop-b
invariant-loop-b l = Window l.to (64 * l.b) (λ j. bit_xor (entry (128 * l.blocks) l.initial.t (2 * l.c) j) (entry (128 * l.blocks) l.initial.t 1 j)) l.initial.t l.t
