-- `matrix_terms::product_block` meets its contract. The invariant: the table's places that the first i terms tell are summed.
-- Assumes nothing.
use Prim.Native.Nat.{◌*◌}
use Rattle.matrix_terms.proofs.Summing.{Summing}
use Rattle.matrix_terms.proofs.product_block.Given as goal

abbrev pub invariant-loop-i : goal.invariant-loop-i
invariant-loop-i l = Summing (128 * l.blocks) l.n l.terms l.from l.t l.at l.i l.sum
