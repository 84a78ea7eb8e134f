-- `shiftsum_trips::code_then_read` meets its contract: what each call ensures, and the law about two of them.
-- Assumes nothing.
use Rattle.spec_operations.proofs.OverC.{code_then_read}
use Rattle.shiftsum_trips.proofs.code_then_read.Goals as goal

pub returns : goal.returns
returns c =
    let first = c.shiftsum_code-first.ensures in
    let second = c.shiftsum_read-second.ensures in
    record { returns_there = first; returns_back = second; given_back = code_then_read _ _ _ _ first second }
