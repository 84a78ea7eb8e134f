-- `matrix_terms::list` meets its contract. The invariant: the dual words below l are listed.
-- Assumes nothing.
use Rattle.sizes.specs.Blocks.{stride}
use Rattle.matrix_terms.proofs.Rows.{ListedTo}
use Rattle.matrix_terms.proofs.list.Given as goal

abbrev pub invariant-loop-l : goal.invariant-loop-l
invariant-loop-l l = ListedTo (stride l.n) l.book l.n l.duals l.initial.terms l.weight l.l l.terms
