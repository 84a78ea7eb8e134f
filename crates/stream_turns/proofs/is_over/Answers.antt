-- `stream_turns::is_over` meets its contract, in each phase.
-- Assumes nothing.
use mathlib.Core.Path.{sym}
use Rattle.stream_turns.proofs.Turns.{over_by_phase}
use Rattle.stream_turns.proofs.is_over.Goals as goal

pub returns-in-Opening : goal.returns-in-Opening
returns-in-Opening c = sym (over_by_phase c.args.s c.in-Opening.is)

pub returns-in-Answering : goal.returns-in-Answering
returns-in-Answering c = sym (over_by_phase c.args.s c.in-Answering.is)

pub returns-in-Ended : goal.returns-in-Ended
returns-in-Ended c = sym (over_by_phase c.args.s c.in-Ended.is)
