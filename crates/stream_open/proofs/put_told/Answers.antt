-- `stream_open::put_told` meets its contract: nothing, or the line of the number.
-- Assumes nothing.
use native.Mathlib.Omega.{arith}
use Rattle.stream_text.proofs.Printing.{printed_none}
use Rattle.stream_open.proofs.put_told.Goals as goal

pub returns-in-Ok : goal.returns-in-Ok
returns-in-Ok c = (rw c.in-Ok.is (printed_none _ _), omega arith)

pub returns-in-Err : goal.returns-in-Err
returns-in-Err c = (rw c.in-Err.is c.put_refusal.ensures.printed, omega arith)
