-- `coder_trips::trips::read_then_code` meets its contract: what the two calls ensure together.
-- Assumes nothing.
use Rattle.spec_operations.proofs.Trips.{read_then_code}
use Rattle.coder_trips.proofs.trips.read_then_code.Goals as goal

pub returns-clause-given_back : goal.returns-clause-given_back
returns-clause-given_back c = read_then_code _ _ _ _ c.read-first.ensures c.code-second.ensures
