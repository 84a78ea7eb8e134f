-- `coder_trips::sorting::remainder_twice` meets its contract: what the two calls ensure together.
-- Assumes nothing.
use Rattle.spec_operations.proofs.Remainder.{sorted}
use Rattle.coder_trips.proofs.sorting.remainder_twice.Goals as goal

pub returns-clause-sorted : goal.returns-clause-sorted
returns-clause-sorted c = sorted _ c.remainder-a.ensures c.remainder-b.ensures
