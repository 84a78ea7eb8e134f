-- `stream_turns::finish` meets its contract, in each phase.
-- Assumes nothing.
use native.Mathlib.Omega.{arith}
use Rattle.stream_text.proofs.Printing.{printed_none}
use Rattle.stream_turns.proofs.Finishing.{finish_coming, finish_none, finish_piece, finish_over}
use Rattle.stream_turns.proofs.finish.Goals as goal

pub returns-then-s-eq0 : goal.returns-then-s-eq0
returns-then-s-eq0 c = (
  rw (finish_none c.args.s c.in-Answering.is c.if-s-eq0.true)
      (printed_none _ _),
  omega arith,
)

pub returns-in-Opening : goal.returns-in-Opening
returns-in-Opening c =
    (rw (finish_coming c.args.s c.in-Opening.is) c.put_refusal.ensures.printed, omega arith)

pub returns-else-s-eq0 : goal.returns-else-s-eq0
returns-else-s-eq0 c =
    let line = finish_piece _ c.requires.0 c.in-Answering.is c.if-s-eq0.false in
    (rw line c.put_refusal-in-Answering.ensures.printed, omega arith)

pub returns-in-Ended : goal.returns-in-Ended
returns-in-Ended c = (rw (finish_over c.args.s c.in-Ended.is) (printed_none _ _), omega arith)
