-- `matrix_terms::product` meets its contract. The invariant: the first b blocks have their sums.
-- Assumes nothing.
use Prim.Native.Nat.{◌*◌}
use Rattle.word_table.specs.Window.{Window}
use Rattle.matrix_terms.specs.Sums.{terms_sum}
use Rattle.matrix_terms.proofs.product.Given as goal

abbrev pub invariant-loop-b : goal.invariant-loop-b
invariant-loop-b l = Window 0 (64 * l.b) (terms_sum (128 * l.blocks) l.n l.terms l.from l.t) l.initial.w l.w
