-- `word_table::tabulate` meets its contract. The invariant: the rows below 2c are put.
-- Assumes nothing.
use Prim.Native.Nat.{◌*◌}
use Rattle.sizes.specs.Blocks.{stride}
use Rattle.word_table.specs.Multiples.{entry}
use Rattle.word_table.proofs.Rows.{Rows}
use Rattle.word_table.proofs.tabulate.Given as goal

abbrev pub invariant-loop-c : goal.invariant-loop-c
invariant-loop-c l = Rows (stride l.n) l.p (2 * l.c) (λ x. x) (entry (stride l.n) l.initial.t 1) l.t
