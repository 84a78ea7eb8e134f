-- `shiftsum_trips::remainder_twice` meets its contract: what each call ensures, and the law about two of them.
-- Assumes nothing.
use Rattle.spec_operations.proofs.OverC.{sorted}
use Rattle.shiftsum_trips.proofs.remainder_twice.Goals as goal

pub returns : goal.returns
returns c =
    let first = c.shiftsum_remainder-first.ensures in
    let second = c.shiftsum_remainder-second.ensures in
    record { returns_first = first; returns_second = second; sorted = sorted _ first second }
