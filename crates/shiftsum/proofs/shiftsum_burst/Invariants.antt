-- `shiftsum_burst`: the list has its first m records from those that were made, and the others as they were.
-- Assumes nothing.
use Rattle.std.proofs.Common.{◌≡◌}
use Rattle.shiftsum.proofs.Filled.{upto}
use Rattle.shiftsum.proofs.shiftsum_burst.Given as goal

abbrev pub invariant-loop-m : goal.invariant-loop-m
invariant-loop-m l = l.records ≡ upto l.m l.made.records l.initial.records
