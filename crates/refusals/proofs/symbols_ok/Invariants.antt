-- `refusals::symbols_ok` meets its contract. The invariant: `ok` tells whether the symbols passed are below q.
-- Assumes nothing.
use mathlib.Core.Path.{◌≡◌}
use lib.Dec.{ltb}
use lib.ListN.{get_or}
use Rattle.spec_range.specs.Fold.{all}
use Rattle.refusals.proofs.symbols_ok.Given as goal

abbrev pub invariant-loop-symbol : goal.invariant-loop-symbol
invariant-loop-symbol l = l.ok ≡ all l.symbol-index (λ j. ltb (get_or l.input j 0) l.q)
