-- `word_table::clear` meets its contract. The invariant: b blocks are cleared.
-- Assumes nothing.
use Prim.Native.Nat.{◌*◌}
use Rattle.word_table.specs.Window.{Window}
use Rattle.word_table.proofs.clear.Given as goal

abbrev pub invariant-loop-b : goal.invariant-loop-b
invariant-loop-b l = Window 0 (64 * l.b) (λ j. 0) l.initial.t l.t
