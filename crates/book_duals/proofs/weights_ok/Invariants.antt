-- `book_duals::weights_ok` meets its contract. The invariant: `ok` tells whether the dual words below l are right.
-- Assumes nothing.
use mathlib.Core.Path.{◌≡◌}
use Rattle.spec_range.specs.Fold.{all}
use Rattle.book_duals.specs.Duals.{weight_ok}
use Rattle.book_duals.proofs.weights_ok.Given as goal

abbrev pub invariant-loop-l : goal.invariant-loop-l
invariant-loop-l l = l.ok ≡ all l.l (weight_ok l.n l.book)
