-- `word_table::put_double` meets its contract. The invariant: b blocks of row 2c are written; row c stands below them, as it was.
-- Assumes nothing.
use Prim.Native.Nat.{◌*◌}
use Rattle.spec_field.specs.Symbols.{times_x}
use Rattle.word_table.specs.Multiples.{entry}
use Rattle.word_table.specs.Window.{Window}
use Rattle.word_table.proofs.put_double.Given as goal

abbrev pub invariant-loop-b : goal.invariant-loop-b
invariant-loop-b l = Window l.to (64 * l.b) (λ j. times_x l.p (entry (128 * l.blocks) l.initial.t l.c j)) l.initial.t l.t
