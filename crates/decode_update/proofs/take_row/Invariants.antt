-- `decode_update::take_row` meets its contract. The invariant: the places below j have taken the row, the others are as they were.
-- Assumes nothing.
use Rattle.decode_update.proofs.Taking.{Taking}
use Rattle.decode_update.proofs.take_row.Given as goal

abbrev pub invariant-loop-j : goal.invariant-loop-j
invariant-loop-j l = Taking l.row l.symbol l.initial.counts l.initial.symbols l.j l.counts l.symbols
