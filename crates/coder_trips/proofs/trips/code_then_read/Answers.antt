-- `coder_trips::trips::code_then_read` meets its contract: what the two calls ensure together.
-- Assumes nothing.
use Rattle.spec_operations.proofs.Trips.{code_then_read}
use Rattle.coder_trips.proofs.trips.code_then_read.Goals as goal

pub returns-clause-given_back : goal.returns-clause-given_back
returns-clause-given_back c = code_then_read _ _ _ _ c.code-first.ensures c.read-second.ensures
