-- `matrix_scatter::count_dual` meets its contract. The invariant: the first i terms are counted.
-- Assumes nothing.
use mathlib.Core.Path.{◌≡◌}
use Prim.Native.Nat.{◌-◌, ◌^◌}
use Rattle.sizes.specs.Blocks.{stride}
use Rattle.matrix_terms.proofs.Raised.{Adding}
use Rattle.matrix_scatter.proofs.Terms.{term_adds}
use Rattle.matrix_terms.specs.Terms.{weight_in}
use Rattle.matrix_scatter.proofs.count_dual.Given as goal

abbrev pub invariant-loop-i : goal.invariant-loop-i
invariant-loop-i l =
    (l.last ≡ 2 ^ l.p - 1) × Adding (weight_in l.terms) (term_adds (stride l.n) l.l l.p l.n l.cells l.terms) l.initial.counts l.counts l.i
