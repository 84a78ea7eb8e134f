-- `shiftsum_trips::read_then_code` meets its contract: what each call ensures, and the law about two of them.
-- Assumes nothing.
use Rattle.spec_operations.proofs.OverC.{read_then_code}
use Rattle.shiftsum_trips.proofs.read_then_code.Goals as goal

pub returns : goal.returns
returns c =
    let first = c.shiftsum_read-first.ensures in
    let second = c.shiftsum_code-second.ensures in
    record { returns_there = first; returns_back = second; given_back = read_then_code _ _ _ _ first second }
