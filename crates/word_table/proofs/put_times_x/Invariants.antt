-- `word_table::put_times_x` meets its contract. The invariant: the places below `to + j` are written.
-- Assumes nothing.
use Rattle.word_array.specs.Stored.{place}
use Rattle.word_table.specs.Window.{Window}
use Rattle.spec_field.specs.Symbols.{times_x}
use Rattle.word_table.proofs.put_times_x.Given as goal

abbrev pub invariant-loop-j : goal.invariant-loop-j
invariant-loop-j l = Window l.to l.j (λ j. times_x l.p (place l.row j)) l.initial.t l.t
