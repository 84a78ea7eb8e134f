-- `stream::step` meets its contract, in each phase.
-- Assumes nothing.
use Rattle.stream.proofs.Passing.{steps_stay}
use Rattle.stream.proofs.step.Goals as goal

pub returns-in-Ended : goal.returns-in-Ended
returns-in-Ended c = (steps_stay _ _ _ c.in-Ended.is, c.requires.0)
