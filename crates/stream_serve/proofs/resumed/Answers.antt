-- `stream_serve::resumed` meets its contract.
-- Assumes nothing.
use Rattle.stream_serve.proofs.resumed.Goals as goal

pub returns : goal.returns
returns c = rw c.phase_after.ensures
