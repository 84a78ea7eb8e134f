-- `shiftsum_trips::code_twice` meets its contract: what each call ensures, and the law about two of them.
-- Assumes nothing.
use Rattle.spec_operations.proofs.OverC.{same_word}
use Rattle.shiftsum_trips.proofs.code_twice.Goals as goal

pub returns : goal.returns
returns c =
    let first = c.shiftsum_code-first.ensures in
    let second = c.shiftsum_code-second.ensures in
    record { returns_first = first; returns_second = second; same_word = same_word first second }
