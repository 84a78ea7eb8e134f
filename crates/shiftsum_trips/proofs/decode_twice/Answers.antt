-- `shiftsum_trips::decode_twice` meets its contract: what each call ensures, and the law about two of them.
-- Assumes nothing.
use Rattle.spec_operations.proofs.OverC.{related}
use Rattle.shiftsum_trips.proofs.decode_twice.Goals as goal

pub returns : goal.returns
returns c =
    let first = c.shiftsum_decode-first.ensures in
    let second = c.shiftsum_decode-second.ensures in
    record { returns_first = first; returns_second = second; moved = related _ _ _ first second }
