-- `matrix_scatter::count_duals` meets its contract. The invariant: the dual words below l are counted.
-- Assumes nothing.
use mathlib.Core.Path.{◌≡◌}
use lib.ListN.{length}
use Rattle.sizes.specs.Blocks.{stride}
use Rattle.matrix_scatter.proofs.Duals.{CountedTo}
use Rattle.matrix_scatter.proofs.count_duals.Given as goal

abbrev pub invariant-loop-l : goal.invariant-loop-l
invariant-loop-l l =
    (length l.w ≡ 256) × (length l.cells ≡ 512) × CountedTo (stride l.n) l.p l.n l.duals l.terms l.starts l.t l.initial.counts l.counts l.l
